-- What is found at an instruction, with the places at hand, is the rule that it breaks.
use Rattle.std.proofs.Common.{◌≡◌, ℕ, ◌<◌, List, length, get_or, ap, ◌∙◌}
use Rattle.std.proofs.lemmas.Option.{get_or_from_slice_get}
use Rattle.control.specs.declared.control.Control.{Control}
use Rattle.control.specs.declared.control.Control.TheVariants.{Plain}
use Rattle.control.specs.declared.place.Place.{Place}
use Rattle.control.specs.Texts.{at}
use Rattle.control.specs.Rules.{place, first_of, checks, address, Inside, broken}
use Rattle.rules.specs.Maps.{Mapped}

module _ (text : List Control) (places : List Place) (inside : Inside text) (mapped : Mapped text places) where
  pub told_broken : (n : ℕ) → n < length text → (kind : Control) (p d : Place) (a : ℕ) → kind ≡ at text n → p ≡ place text n → a ≡ address kind
      → first_of (checks kind p (get_or places a d).depth (get_or places a d).section) ≡ broken text n
  told_broken n here kind p d a ek ep ea =
      let there = address (at text n) in
      let target : get_or places a d ≡ place text there =
      ap (λ k. get_or places k d) (ea ∙ ap address ek) ∙ get_or_from_slice_get places there (place text there) d (mapped there (inside n here)) in
      ap (λ k. first_of (checks k p (get_or places a d).depth (get_or places a d).section)) ek
      ∙ (ap (λ q. first_of (checks (at text n) q (get_or places a d).depth (get_or places a d).section)) ep
      ∙ ap (λ t. first_of (checks (at text n) (place text n) t.depth t.section)) target)

  -- one turn of the walk over the instructions and their places
  pub record Told (n : ℕ) (kind : Control) (p : Place) : Type 0 where
    pub here : n < length text
    pub stands : p ≡ place text n
    pub broken : (d : Place) (a : ℕ) → a ≡ address kind → first_of (checks kind p (get_or places a d).depth (get_or places a d).section) ≡ broken text n

  pub told_turn : (n : ℕ) (kind : Control) (p : Place) → (n < length text) × (n < length places) × ((d : Control) → kind ≡ get_or text n d) × ((d : Place) → p ≡ get_or places n d)
      → Told n kind p
  told_turn n kind p turn =
      let stands : p ≡ place text n = turn.3 p ∙ get_or_from_slice_get places n (place text n) p (mapped n turn.0) in
      record { here = turn.0; stands = stands; broken = λ d a ea. told_broken n turn.0 kind p d a (turn.2 Plain) stands ea }
