-- Weights: each satisfies the equation of its instruction, and no run takes more steps than the weight of its start.
use Rattle.std.proofs.Common.{◌≡◌, ℕ, zero, suc, ◌+◌, ◌-◌, ◌<◌, ◌≤◌, Bool, true, false, cond, eqb, ltb, leb, List, [], ◌∷◌, length, get_or, drop, Some, None, sym, refl, ap, ◌∙◌, subst, ⊎_elim, suc-add, zero-add, arith}
use Rattle.std.proofs.lemmas.List.{get_or-drop}
use Rattle.std.proofs.lemmas.Bool.{cases_eq, or_parts, leb-false, lt-ltb, cond-true}
use Rattle.control.specs.declared.control.Control.{Control}
use Rattle.control.specs.declared.control.Control.TheVariants.{Plain, Push, Pop, JumpIf, Jump, Call, Return, End}
use Rattle.control.specs.Texts.{at}
use Rattle.control.specs.Rules.{address, KeepsRules, Inside}
use Rattle.control.specs.Weights.{jumps_back, loops, weigh, weigh_in, weights, weight, limit}
use Rattle.control.specs.Machine.{State, start, Outcome, Goes, Ends, Faults, back, moved, move, steps}
use Rattle.control.specs.Promises.{WithinBound}
use Rattle.control.proofs.Keeping.{judged_at, call_keeps}
use Rattle.control.proofs.Safety.{Good, Fine, fine, good_start}

-- the weights of the last k are the end of the weights of all
later : (text : List Control) (k j : ℕ) → drop j (weights text (j + k)) ≡ weights text k
unfolding weights
later text k zero = ap (λ n. weights text n) (zero-add k)
later text k (suc j) = ap (λ n. drop (suc j) (weights text n)) (suc-add j k) ∙ later text k j

pub seen : (text : List Control) (k j i : ℕ) → j + k ≡ length text → get_or (weights text k) i 0 ≡ weight text (j + i)
seen text k j i e =
    ap (λ ws. get_or ws i 0) (sym (later text k j)) ∙ (get_or-drop j (weights text (j + k)) i 0 ∙ ap (λ n. get_or (weights text n) (j + i) 0) e)

head_of : (text : List Control) (k : ℕ) → get_or (weights text (suc k)) 0 0 ≡ weigh_in text (length text - suc k) (weights text k)
unfolding weights
head_of text k = refl

-- an instruction's weight, from those of the next one and of its address (or of the next one, where that is not ahead)
pub weight_is : (text : List Control) (n : ℕ) → n < length text
    → weight text n ≡ weigh (at text n) (weight text (n + 1 + (address (at text n) - (n + 1)))) (weight text (n + 1))
weight_is text n lt =
    let k = length text - (n + 1) in
    let ek : n + suc k ≡ length text = omega arith in
    let en : length text - suc k ≡ n = omega arith in
    let ej : n + 1 + k ≡ length text = omega arith in
    let here : weight text n ≡ get_or (weights text (suc k)) 0 0 = sym (seen text (suc k) n 0 ek ∙ ap (λ m. weight text m) (omega arith)) in
    let target = seen text k (n + 1) (address (at text n) - (n + 1)) ej in
    let next : get_or (weights text k) 0 0 ≡ weight text (n + 1) = seen text k (n + 1) 0 ej ∙ ap (λ m. weight text m) (omega arith) in
    here ∙ (head_of text k ∙ (ap (λ m. weigh_in text m (weights text k)) en
    ∙ (ap (λ x. weigh (at text n) x (get_or (weights text k) 0 0)) target ∙ ap (λ x. weigh (at text n) (weight text (n + 1 + (address (at text n) - (n + 1)))) x) next)))

-- where the address is ahead
pub ahead : (text : List Control) (n k : ℕ) → n < k → weight text (n + 1 + (k - (n + 1))) ≡ weight text k
ahead text n k lt = ap (λ m. weight text m) (omega arith)

pub weight_at : (text : List Control) (n : ℕ) (c : Control) → at text n ≡ c → n < length text
    → weight text n ≡ weigh c (weight text (n + 1 + (address c - (n + 1)))) (weight text (n + 1))
weight_at text n c e lt = subst (λ x. weight text n ≡ weigh x (weight text (n + 1 + (address x - (n + 1)))) (weight text (n + 1))) e (weight_is text n lt)

-- a text that does not loop has no jump that does not go forward
forward : (text : List Control) (m n : ℕ) → n < m → loops text m ≡ false → jumps_back n (at text n) ≡ false
unfolding loops
forward text zero n lt h = absurd (omega arith)
forward text (suc m) n lt h =
    let parts = or_parts (loops text m) (jumps_back m (at text m)) h in
    ⊎_elim (λ (same : n ≡ m). ap (λ k. jumps_back k (at text k)) same ∙ parts.1)
    (λ apart. forward text m n (omega arith) parts.0) (cases_eq n m)

-- the steps that are left at most: from here, and from each return address
total : List Control → List ℕ → ℕ
total text [] = 0
total text (r ∷ rs) = weight text r + total text rs

left : List Control → State → ℕ
left text s = weight text s.pc + total text s.returns

-- a move takes one of them
Falls : List Control → Outcome → ℕ → Type 0
Falls text (Goes s) p = 1 + left text s ≤ p
Falls text Ends p = 1 ≤ p
Falls text (Faults e) p = Unit {0}

falls_unless : (text : List Control) (t : Bool) (e : ℕ) (s : State) (p : ℕ) → 1 + left text s ≤ p → Falls text (cond t (Faults e) (Goes s)) p
unfolding Falls
falls_unless text true e s p h = tt
falls_unless text false e s p h = h

module _ (text : List Control) (inside : Inside text) (keeps : KeepsRules text) (straight : loops text (length text) ≡ false) where
  goes_forward : (s : State) → Good text s → (c : Control) → at text s.pc ≡ c → jumps_back s.pc c ≡ false
  goes_forward s g c e = ap (jumps_back s.pc) (sym e) ∙ forward text (length text) s.pc g.inside straight

  falls_back : (s : State) (rs : List ℕ) → 1 ≤ weight text s.pc → Falls text (back s rs) (weight text s.pc + total text rs)
  unfolding Falls left total
  falls_back s [] h = tt
  falls_back s (r ∷ rs) h = omega arith

  falls_by : (k : Control) (c : Bool) (s : State) (g : Good text s) → at text s.pc ≡ k → Falls text (moved k c s) (left text s)
  unfolding Falls left total
  falls_by Plain c s g e = omega (arith, weight_at text s.pc Plain e g.inside)
  falls_by Push c s g e =
      falls_unless text (eqb s.held 8) 0x03 (record { pc = s.pc + 1; held = s.held + 1; returns = s.returns }) (left text s)
      (omega (arith, weight_at text s.pc Push e g.inside))
  falls_by Pop c s g e =
      falls_unless text (eqb s.held 0) 0x04 (record { pc = s.pc + 1; held = s.held - 1; returns = s.returns }) (left text s)
      (omega (arith, weight_at text s.pc Pop e g.inside))
  falls_by (JumpIf k) true s g e =
      omega (arith, weight_at text s.pc (JumpIf k) e g.inside, ahead text s.pc k (leb-false k s.pc (goes_forward s g (JumpIf k) e)))
  falls_by (JumpIf k) false s g e = omega (arith, weight_at text s.pc (JumpIf k) e g.inside)
  falls_by (Jump k) c s g e =
      omega (arith, weight_at text s.pc (Jump k) e g.inside, ahead text s.pc k (leb-false k s.pc (goes_forward s g (Jump k) e)))
  falls_by (Call k) c s g e =
      let well = call_keeps text s.pc g.inside k (judged_at text s.pc (Call k) e (keeps s.pc g.inside)) in
      falls_unless text (eqb (length s.returns) 8) 0x05 (record { pc = k; held = s.held; returns = (s.pc + 1) ∷ s.returns }) (left text s)
      (omega (arith, weight_at text s.pc (Call k) e g.inside, ahead text s.pc k well.forward))
  falls_by Return c s g e = falls_back s s.returns (omega (arith, weight_at text s.pc Return e g.inside))
  falls_by End c s g e = omega (arith, weight_at text s.pc End e g.inside)

  falls : (c : Bool) (s : State) → Good text s → Falls text (move text c s) (left text s)
  unfolding move
  falls c s g =
      subst (λ o. Falls text o (left text s)) (sym (cond-true (ltb s.pc (length text)) (moved (at text s.pc) c s) (Faults 0x08) (lt-ltb s.pc (length text) g.inside)))
      (falls_by (at text s.pc) c s g refl)

  -- one step and those after it
  one_and_rest : (cs : List Bool) (o : Outcome) (p : ℕ) → Fine text o → Falls text o p → ((s : State) → Good text s → steps text (Goes s) cs ≤ left text s) → 1 + steps text o cs ≤ p
  unfolding Falls steps
  one_and_rest cs (Goes s) p f l rest = omega (arith, rest s f)
  one_and_rest [] Ends p f l rest = l
  one_and_rest (c ∷ cs) Ends p f l rest = l
  one_and_rest cs (Faults e) p f l rest = absurd f

  steps_within : (cs : List Bool) (s : State) → Good text s → steps text (Goes s) cs ≤ left text s
  unfolding steps
  steps_within [] s g = omega arith
  steps_within (c ∷ cs) s g = one_and_rest cs (move text c s) (left text s) (fine text inside keeps c s g) (falls c s g) (steps_within cs)

  pub steps_below : 0 < length text → (cs : List Bool) → steps text (Goes start) cs ≤ weight text 0
  unfolding left total
  steps_below h cs = omega (arith, steps_within cs start (good_start text inside keeps h))

bound_by : (t u : Bool) (w b : ℕ) → cond t None (cond u (Some w) None) ≡ Some b → (t ≡ false) × (w ≡ b)
bound_by true u w b h = absurd (cc)
bound_by false true w b h = (refl, cc)
bound_by false false w b h = absurd (cc)

pub within_bound : (text : List Control) → 0 < length text → Inside text → KeepsRules text → WithinBound text
within_bound text some inside keeps b e cs =
    let parts = bound_by (loops text (length text)) (leb (weight text 0) limit) (weight text 0) b e in
    omega (arith, steps_below text inside keeps parts.0 some cs)
