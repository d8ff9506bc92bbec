use Rattle.std.proofs.Common.{◌≡◌, ℕ, ◌<◌, get_or}
use Rattle.std.specs.Slice.Iter.{chunks_exact_rest, chunks_exact_size}
use Rattle.arrayvec.specs.ArrayVec.{array_vec_len}
use Rattle.loading.specs.Decoded.{StandsFor, nothing}
use Rattle.loading.proofs.Chunking.{Taken}
use Rattle.loading.proofs.image.Image.decode.Given as goal

-- the instructions so far
abbrev pub invariant-loop-bytes : goal.invariant-loop-bytes
invariant-loop-bytes l =
    (chunks_exact_size l.bytes-iterator ≡ 5)
    × Taken l.fn.self.bytes.now (chunks_exact_rest l.bytes-iterator) (array_vec_len l.instructions)
    × ((k : ℕ) → k < array_vec_len l.instructions → StandsFor l.layouts l.fn.self.bytes.now k (get_or l.instructions.items k nothing))
