use Rattle.std.proofs.Common.{sym, subst, ◌∙◌, arith}
use Rattle.std.specs.Slice.Iter.{chunks_exact_rest}
use Rattle.arrayvec.specs.ArrayVec.{array_vec_len}
use Rattle.loading.specs.Decoded.{StandsFor, nothing}
use Rattle.loading.proofs.Chunking.{Taken, next, ended, pushed}
use Rattle.loading.proofs.Filling.{stands}
use Rattle.loading.proofs.image.Image.decode.Goals as goal

pub loop-bytes-preserved : goal.loop-bytes-preserved
loop-bytes-preserved c =
    let image = c.args.self.bytes.now in
    let layouts = c.args.layouts.now in
    let s = c.in-Some.ensures.steps in
    let n = next image _ _ _ _ c.loop-bytes.invariant.1 s.1.0 (s.1.1 ∙ c.loop-bytes.invariant.0) in
    let here =
    stands layouts image (array_vec_len c.loop-bytes.instructions) c.of.result.opcode c.of.result.operand.now c.decode.result
    (c.of.ensures.opcode ∙ n.opcode) (c.of.ensures.operand ∙ n.operand) c.decode.ensures.opcode c.decode.ensures.operand in (
      s.0 ∙ c.loop-bytes.invariant.0,
      subst (Taken image (chunks_exact_rest c.next.new.self)) (sym c.push.ensures.len) n.taken,
      pushed (StandsFor layouts image) nothing c.loop-bytes.instructions.items c.push.new.self.items c.decode.result c.push.ensures.items
          c.loop-bytes.invariant.2 here,
    )

pub returns : goal.returns
returns c =
    let s = c.in-None.ensures.steps in
    let all = ended c.args.self.bytes.now _ _ c.loop-bytes.invariant.1 (omega (arith, s.1.0, c.loop-bytes.invariant.0)) in
    record { all = all; decoded = λ n lt. c.loop-bytes.invariant.2 n (omega (arith, all)) }
