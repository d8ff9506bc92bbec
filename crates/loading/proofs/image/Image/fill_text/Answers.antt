use Rattle.std.proofs.Common.{Ok, ◌≡◌, length, sym, ap, subst, ◌∙◌, lit<, arith, rules}
use Rattle.std.proofs.lemmas.Result.{err_from_is_err_and}
use Rattle.std.specs.Slice.Iter.{chunks_exact_rest}
use Rattle.arrayvec.specs.ArrayVec.{array_vec_len}
use Rattle.control.specs.declared.control.Control.TheVariants.{Plain}
use Rattle.control.specs.Rules.{first_found}
use Rattle.control.proofs.Finding.{found_start, found_none, found_here}
use Rattle.loading.specs.declared.error.LoadError.TheVariants.{Breaks}
use Rattle.loading.specs.Images.{count}
use Rattle.loading.specs.Instructions.{alone}
use Rattle.loading.specs.Verdicts.{FailsAlone, broken_alone, kind_at}
use Rattle.loading.proofs.Chunking.{Taken, start, next, ended, pushed}
use Rattle.loading.proofs.Passing.{mapped_err, sized, alone_ok, alone_err, kinds_are}
use Rattle.loading.proofs.image.Image.fill_text.Goals as goal

pub loop-bytes-init : goal.loop-bytes-init
loop-bytes-init c =
    let image = c.args.self.bytes.now in
    let none : array_vec_len c.args.kinds.now ≡ 0 = ap length c.requires in
    let all = ap chunks_exact_rest c.into_iter-bytes-iterator.ensures.into_iter_gives ∙ c.chunks_exact-bytes-items.ensures.rest in (
      search rules,
      subst (Taken image (chunks_exact_rest c.into_iter-bytes-iterator.result)) (sym none) (subst (λ l. Taken image l 0) (sym all) (start image)),
      ap (first_found (broken_alone c.args.layouts.now image)) none ∙ found_start (broken_alone c.args.layouts.now image),
      λ k lt. absurd (omega (arith, none)),
    )

pub push-requires : goal.push-requires
push-requires c =
    let s = c.in-Some.ensures.steps in
    let n = next c.args.self.bytes.now _ _ _ _ c.loop-bytes.invariant.1 s.1.0 (s.1.1 ∙ c.loop-bytes.invariant.0) in
    (lit< tt, omega (arith, n.inside, (sized c.args.self.bytes.now c.args.self.lawful).few))

pub loop-bytes-preserved : goal.loop-bytes-preserved
loop-bytes-preserved c =
    let image = c.args.self.bytes.now in
    let layouts = c.args.layouts.now in
    let s = c.in-Some.ensures.steps in
    let n = next image _ _ _ _ c.loop-bytes.invariant.1 s.1.0 (s.1.1 ∙ c.loop-bytes.invariant.0) in
    let fine : c.check.result ≡ Ok c.in_ok-kind.kind = search rules in
    let ok =
    alone_ok layouts image (array_vec_len c.loop-bytes.kinds) c.of.result.opcode c.of.result.operand.now
    (c.of.ensures.opcode ∙ n.opcode) (c.of.ensures.operand ∙ n.operand) c.in_ok-kind.kind (sym fine ∙ (c.check.ensures ∙ ap (λ k. alone layouts k c.of.result.opcode c.of.result.operand.now) c.count-count.ensures)) in (
      s.0 ∙ c.loop-bytes.invariant.0,
      subst (Taken image (chunks_exact_rest c.next.new.self)) (sym c.push.ensures.len) n.taken,
      ap (first_found (broken_alone layouts image)) c.push.ensures.len
          ∙ found_none (broken_alone layouts image) (array_vec_len c.loop-bytes.kinds) c.loop-bytes.invariant.2 ok.0,
      pushed (λ k x. x ≡ kind_at image k) Plain c.loop-bytes.kinds.items c.push.new.self.items c.in_ok-kind.kind c.push.ensures.items c.loop-bytes.invariant.3 ok.1,
    )

pub returns-in_err-kind : goal.returns-in_err-kind
returns-in_err-kind c =
    let image = c.args.self.bytes.now in
    let layouts = c.args.layouts.now in
    let s = c.in-Some.ensures.steps in
    let n = next image _ _ _ _ c.loop-bytes.invariant.1 s.1.0 (s.1.1 ∙ c.loop-bytes.invariant.0) in
    let m = mapped_err c.check.result c.map_err.result c.in_err-kind.field-0.0 _ c.map_err.ensures.cases c.in_err-kind.was in
    let told : c.in_err-kind.field-0.0 ≡ Breaks m.0 (array_vec_len c.loop-bytes.kinds) = search rules in
    let broken =
    alone_err layouts image (array_vec_len c.loop-bytes.kinds) c.of.result.opcode c.of.result.operand.now
    (c.of.ensures.opcode ∙ n.opcode) (c.of.ensures.operand ∙ n.operand) m.0
    (sym m.1 ∙ (c.check.ensures ∙ ap (λ k. alone layouts k c.of.result.opcode c.of.result.operand.now) c.count-count.ensures)) in
    let p = err_from_is_err_and c.from_residual.result c.from_residual.ensures.1 in
    rw (p.1, p.2) (subst (FailsAlone layouts image) (sym told)
    (found_here (broken_alone layouts image) (array_vec_len c.loop-bytes.kinds) (count image) m.0 n.inside c.loop-bytes.invariant.2 broken))

pub returns : goal.returns
returns c =
    let image = c.args.self.bytes.now in
    let s = c.in-None.ensures.steps in
    let all = ended image _ _ c.loop-bytes.invariant.1 (omega (arith, s.1.0, c.loop-bytes.invariant.0)) in
    record {
      alone = ap (first_found (broken_alone c.args.layouts.now image)) (sym all) ∙ c.loop-bytes.invariant.2;
      kinds_are = kinds_are image c.loop-bytes.kinds.items all (λ k lt. c.loop-bytes.invariant.3 k (omega (arith, all)));
    }
