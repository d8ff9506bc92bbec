-- Called addresses, depths, sections and ranks, one instruction after another.
use Rattle.std.proofs.Common.{◌≡◌, ℕ, zero, suc, ◌+◌, ◌<◌, ◌≤◌, max, Bool, true, false, cond, ◌||◌, eqb, List, [], ◌∷◌, length, get_or, take, set, Some, Option, is_some, unwrap_or, slice_get, sym, refl, ap, ◌∙◌, ⊎_elim, add-one, arith}
use Rattle.std.specs.Bool.{then_some}
use Rattle.std.specs.Option.{option_map}
use Rattle.std.proofs.Math.Bool.{or_comm}
use Rattle.std.proofs.lemmas.List.{take_all, length-set, get_or-set_same, get_or-set_other}
use Rattle.std.proofs.lemmas.Option.{slice_get-get_or, get_or_from_slice_get}
use Rattle.std.proofs.lemmas.Bool.{ne_eqb, cases_eq, cond_both}
use Rattle.std.specs.List.{list_any}
use Rattle.control.specs.declared.control.Control.{Control}
use Rattle.control.specs.declared.control.Control.TheVariants.{Push}
use Rattle.control.specs.declared.place.Place.{Place}
use Rattle.control.specs.Rules.{place}
use Rattle.control.specs.Texts.{at, ground, stacked, depth, calls, called, starts, section, asked_more, ranks, rank}

-- ---- the addresses that are called

pub called_is : (text : List Control) (s : ℕ) → list_any (λ c. calls c s) text ≡ called text s
unfolding called
called_is [] s = refl
called_is (c ∷ cs) s = ap (λ b. calls c s || b) (called_is cs s)

pub called_all : (text : List Control) (i s : ℕ) → length text ≤ i → list_any (λ c. calls c s) (take i text) ≡ called text s
called_all text i s h = ap (list_any (λ c. calls c s)) (take_all i text h) ∙ called_is text s

-- ---- depths

pub depth_start : (text : List Control) → ground ≡ depth text 0
unfolding depth
depth_start text = refl

pub depth_next : (text : List Control) (i : ℕ) → stacked (at text i) (depth text i) ≡ depth text (i + 1)
unfolding depth
depth_next text i = sym (ap (λ n. depth text n) (add-one i))

stacked_high : (c : Control) (d : ℕ) → stacked c d ≤ d + 1
stacked_high Push d = omega arith
stacked_high _ d = omega arith

pub depth_high : (text : List Control) (n : ℕ) → depth text n ≤ ground + n
unfolding depth
depth_high text zero = omega arith
depth_high text (suc n) = omega (arith, stacked_high (at text n) (depth text n), depth_high text n)

-- ---- sections

pub starts_later : (text : List Control) (n : ℕ) → starts text (suc n) ≡ called text (suc n)
starts_later text n = ap (λ b. b || called text (suc n)) (ne_eqb (suc n) 0 (λ e. omega arith))

pub section_start : (text : List Control) → section text 0 ≡ 0
unfolding section
section_start text = refl

section_next : (text : List Control) (n : ℕ) → cond (called text (n + 1)) (n + 1) (section text n) ≡ section text (n + 1)
unfolding section
section_next text n = rw add-one (ap (λ b. cond b (suc n) (section text n)) (sym (starts_later text n)))

-- ---- ranks

pub asked_start : (text : List Control) (s : ℕ) → (ranks text 0).asked s ≡ 1
unfolding ranks
asked_start text s = refl

pub rank_start : (text : List Control) → rank text 0 ≡ 0
unfolding ranks
rank_start text = refl

raised : (c b : Bool) (f : ℕ → ℕ) (x : ℕ) → cond c (option_map f (then_some b x)) (then_some b x) ≡ then_some b (cond c (f x) x)
raised true true f x = refl
raised true false f x = refl
raised false b f x = refl

pub asked_next : (text : List Control) (n s here : ℕ) (old new : Option ℕ) → here ≡ rank text n → old ≡ then_some (called text s) ((ranks text n).asked s)
    → new ≡ cond (calls (at text n) s) (option_map (λ r. max r (1 + here)) old) old → new ≡ then_some (called text s) ((ranks text (n + 1)).asked s)
unfolding ranks
asked_next text n s here old new eh eo e =
    rw (e, eo, eh, add-one) (raised (calls (at text n) s) (called text s) (λ r. max r (1 + rank text n)) ((ranks text n).asked s))

rank_next : (text : List Control) (n : ℕ) → cond (called text (n + 1)) ((ranks text (n + 1)).asked (n + 1)) (rank text n) ≡ rank text (n + 1)
unfolding ranks
rank_next text n = rw add-one (ap (λ b. cond b ((ranks text (suc n)).asked (suc n)) (rank text n)) (sym (starts_later text n)))

-- a rank never passes the number of instructions before it
pub ranks_low : (text : List Control) (n : ℕ) → (rank text n ≤ n) × ((s : ℕ) → (ranks text n).asked s ≤ n + 1)
unfolding ranks
ranks_low text zero = (omega arith, λ s. omega arith)
ranks_low text (suc n) =
    let below = ranks_low text n in
    let asked : (s : ℕ) → asked_more (at text n) (ranks text n) s ≤ suc n =
    λ s. cond_both (calls (at text n) s) _ _ (λ r. r ≤ suc n) (λ _. omega (arith, below.0, below.1 s)) (λ _. omega (arith, below.1 s)) in
    (cond_both (starts text (suc n)) _ _ (λ r. r ≤ suc n) (λ _. asked (suc n)) (λ _. omega (arith, below.0)), λ s. omega (arith, asked s))

-- a table that is filled from its start, one entry more
filled_more : {X : Type 0} (f : ℕ → X) (d : X) (xs : List X) (i : ℕ) (v : X) → i < length xs → ((n : ℕ) → n < i → get_or xs n d ≡ f n) → v ≡ f i
    → (n : ℕ) → n < i + 1 → get_or (set xs i v) n d ≡ f n
filled_more f d xs i v lt below here n h =
    ⊎_elim (λ (same : n ≡ i). ap (λ k. get_or (set xs i v) k d) same ∙ (get_or-set_same xs i v d lt ∙ (here ∙ ap f (sym same))))
    (λ apart. get_or-set_other xs i n v d apart ∙ below n (omega arith)) (cases_eq n i)

-- ---- where an instruction stands

-- a place is that of an instruction, but for whether it is the last of its section
pub record Stands (text : List Control) (n : ℕ) (p : Place) : Type 0 where
  pub number : p.number ≡ n
  pub depth : p.depth ≡ depth text n
  pub section : p.section ≡ section text n
  pub rank : p.rank ≡ rank text n

begins_is : (m : Bool) (r : ℕ) → is_some (then_some m r) ≡ m
begins_is true r = refl
begins_is false r = refl

first_or : (m : Bool) (r d : ℕ) → unwrap_or (then_some m r) d ≡ cond m r d
first_or true r d = refl
first_or false r d = refl

pub last_is : (text : List Control) (n r : ℕ) (o : Option ℕ) (last : Bool) → o ≡ then_some (called text (n + 1)) r → last ≡ (is_some o || eqb (n + 1) (length text))
    → last ≡ (eqb (n + 1) (length text) || starts text (n + 1))
last_is text n r o last eo e = rw (e, eo, begins_is, add-one, starts_later) (or_comm (called text (suc n)) (eqb (suc n) (length text)))

pub placed : (text : List Control) (n : ℕ) (p : Place) (last : Bool) → Stands text n p → last ≡ (eqb (n + 1) (length text) || starts text (n + 1))
    → ◌≡◌ {A = Place} (record { number = p.number; depth = p.depth; section = p.section; rank = p.rank; last = last }) (place text n)
placed text n p last s e = cc (s.number, s.depth, s.section, s.rank)

-- a table of places, one more
pub mapped_more : (text : List Control) (places : List Place) (n : ℕ) (p : Place) → n < length places
    → ((k : ℕ) → k < n → slice_get places k ≡ Some (place text k)) → p ≡ place text n
    → (k : ℕ) → k < n + 1 → slice_get (set places n p) k ≡ Some (place text k)
mapped_more text places n p inside below here k h =
    let d = place text k in
    slice_get-get_or (set places n p) k d (omega (arith, length-set places n p))
    ∙ ap Some (filled_more (place text) d places n p inside (λ j lt. get_or_from_slice_get places j (place text j) d (below j lt)) here k h)

pub stands_next : (text : List Control) (n : ℕ) (p q : Place) (begins : Option ℕ) → Stands text n p → begins ≡ then_some (called text (n + 1)) ((ranks text (n + 1)).asked (n + 1))
    → q.number ≡ p.number + 1 → q.depth ≡ stacked (at text n) p.depth → q.section ≡ cond (is_some begins) (p.number + 1) p.section → q.rank ≡ unwrap_or begins p.rank
    → Stands text (n + 1) q
stands_next text n p q begins s eb en ed es er =
    let asked = (ranks text (n + 1)).asked (n + 1) in
    record {
      number = rw en (ap (λ k. k + 1) s.number);
      depth = rw (ed, s.depth) (depth_next text n);
      section = rw (es, eb, begins_is, s.number, s.section) (section_next text n);
      rank = rw (er, eb, first_or, s.rank) (rank_next text n);
    }
