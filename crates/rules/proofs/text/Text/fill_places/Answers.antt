use Rattle.std.proofs.Common.{◌≡◌, ℕ, ◌+◌, ◌<◌, Option, get_or, None, sym, ap, ◌∙◌, arith, rules}
use Rattle.std.specs.Bool.{then_some}
use Rattle.std.proofs.lemmas.List.{get_or-replicate, length-set}
use Rattle.control.specs.Texts.{called, ranks}
use Rattle.rules.proofs.Measuring.{depth_start, section_start, rank_start, asked_start, asked_next, ranks_low, depth_high, last_is, placed, mapped_more, stands_next}
use Rattle.rules.proofs.text.Text.fill_places.Goals as goal

pub fill_called-requires : goal.fill_called-requires
fill_called-requires c = λ s h. get_or-replicate {A = Option ℕ} 1025 s None None h

pub loop-n-init : goal.loop-n-init
loop-n-init c = let text = c.args.self.kinds.now in record {
  long = search rules;
  table = λ k h. absurd (omega (arith, h));
  stands = record {
    number = c.default.ensures.0;
    depth = depth_start text;
    section = c.default.ensures.1.1.0 ∙ sym (section_start text);
    rank = c.default.ensures.1.1.1.0 ∙ sym (rank_start text);
  };
  asked = λ s h. c.fill_called.ensures s h ∙ ap (then_some (called text s)) (sym (asked_start text s));
}

pub ask-requires-clause-low : goal.ask-requires-clause-low
ask-requires-clause-low c = omega (arith, c.loop-n.invariant.stands.rank, (ranks_low c.args.self.kinds.now c.loop-n.n).0, c.args.self.few)

pub after-place-requires-clause-low : goal.after-place-requires-clause-low
after-place-requires-clause-low c = omega (arith, c.loop-n.invariant.stands.depth, depth_high c.args.self.kinds.now c.loop-n.n, c.args.self.few)

pub loop-n-preserved : goal.loop-n-preserved
loop-n-preserved c =
    let text = c.args.self.kinds.now in
    let n = c.loop-n.n in
    let known = c.loop-n.invariant in
    let small : n + 1 < 1025 = omega (arith, c.args.self.few) in
    let asked : (s : ℕ) → s < 1025 → get_or c.ask.new.asked s None ≡ then_some (called text s) ((ranks text (n + 1)).asked s) =
    λ s h. asked_next text n s c.loop-n.place.rank (get_or c.loop-n.asked s None) _ known.stands.rank (known.asked s h) (c.ask.ensures s h) in
    record {
      long = length-set c.loop-n.places n _ ∙ known.long;
      table =
          mapped_more text c.loop-n.places n _ (omega (arith, known.long)) known.table
          (placed text n c.loop-n.place c.is_last-last.result known.stands (last_is text n _ _ c.is_last-last.result (known.asked (n + 1) small) c.is_last-last.ensures));
      stands = stands_next text n c.loop-n.place c.after-place.result _ known.stands (asked (n + 1) small) c.after-place.ensures.number c.after-place.ensures.depth c.after-place.ensures.section c.after-place.ensures.rank;
      asked = asked;
    }
