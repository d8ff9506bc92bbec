use Rattle.std.proofs.Common.{◌≡◌, ℕ, ◌<◌, get_or, None}
use Rattle.std.specs.Slice.Iter.{chunks_exact_rest, chunks_exact_size}
use Rattle.arrayvec.specs.ArrayVec.{array_vec_len}
use Rattle.control.specs.declared.control.Control.TheVariants.{Plain}
use Rattle.control.specs.Rules.{first_found}
use Rattle.loading.specs.Verdicts.{broken_alone, kind_at}
use Rattle.loading.proofs.Chunking.{Taken}
use Rattle.loading.proofs.image.Image.fill_text.Given as goal

-- each instruction so far keeps its rules, and its kind is noted
abbrev pub invariant-loop-bytes : goal.invariant-loop-bytes
invariant-loop-bytes l =
    (chunks_exact_size l.bytes-iterator ≡ 5)
    × Taken l.fn.self.bytes.now (chunks_exact_rest l.bytes-iterator) (array_vec_len l.kinds)
    × (first_found (broken_alone l.layouts l.fn.self.bytes.now) (array_vec_len l.kinds) ≡ None)
    × ((k : ℕ) → k < array_vec_len l.kinds → get_or l.kinds.items k Plain ≡ kind_at l.fn.self.bytes.now k)
