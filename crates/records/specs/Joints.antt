-- A joint: current records of one source, previous records of another.
use Rattle.std.specs.Prelude.{◌≡◌, ℕ, Bool, true, false, cond, ◌⊎◌, List, [], length, refl}
use Rattle.std.proofs.Common.{sym, ◌∙◌, inl, eqb-true}
use Rattle.records.specs.declared.layout.Layout.{Layout}
use Rattle.records.specs.declared.record.Record.{Record}
use Rattle.records.specs.declared.record.Record.TheVariants.{Current, Previous}
use Rattle.records.specs.Layouts.{absent, lawful, alike}
use Rattle.records.specs.Meaning.{Meaning, Lawful}

-- the side that a record is taken from
abbrev pub side : Meaning → Meaning → Record → Meaning
side c p Current = c
side c p Previous = p

-- a base whose two layouts differ is absent
abbrev pub joined : Meaning → Meaning → Meaning
joined c p = record {
  layout = λ b. cond (alike (c.layout b) (p.layout b)) (c.layout b) absent;
  bytes = λ b w. cond (alike (c.layout b) (p.layout b)) ((side c p w).bytes b w) [];
}

-- the three laws at one base, by whether the sides' layouts are alike
eight_by : (t : Bool) (l : Layout) → l ≡ absent → cond t l absent ≡ absent
eight_by true l h = h
eight_by false l h = refl

each_by : (t : Bool) (l : Layout) → (l ≡ absent) ⊎ (lawful l ≡ true) → (cond t l absent ≡ absent) ⊎ (lawful (cond t l absent) ≡ true)
each_by true l h = h
each_by false l h = inl refl

exact_by : (t : Bool) (l : Layout) (xs : List ℕ) → (t ≡ true → length xs ≡ l.length) → length (cond t xs []) ≡ (cond t l absent).length
exact_by true l xs h = h refl
exact_by false l xs h = refl

module _ {c p : Meaning} (hc : Lawful c) (hp : Lawful p) where
  side_exact : (b : ℕ) (w : Record) → alike (c.layout b) (p.layout b) ≡ true → length ((side c p w).bytes b w) ≡ (c.layout b).length
  side_exact b Current t = hc.exact b Current
  side_exact b Previous t = hp.exact b Previous ∙ sym (eqb-true (c.layout b).length (p.layout b).length t)

  pub joined_lawful : Lawful (joined c p)
  joined_lawful = record {
    eight = λ b h. eight_by (alike (c.layout b) (p.layout b)) (c.layout b) (hc.eight b h);
    each = λ b. each_by (alike (c.layout b) (p.layout b)) (c.layout b) (hc.each b);
    exact = λ b w. exact_by (alike (c.layout b) (p.layout b)) (c.layout b) ((side c p w).bytes b w) (side_exact b w);
  }
