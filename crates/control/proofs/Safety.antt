-- A text that keeps the rules never faults: what holds of the machine at every instruction.
use Rattle.std.proofs.Common.{◌≡◌, ℕ, zero, suc, ◌+◌, ◌-◌, ◌<◌, ◌≤◌, Bool, true, false, eqb, ltb, List, [], ◌∷◌, length, None, sym, refl, ap, ◌∙◌, subst, add-one, arith}
use Rattle.std.proofs.lemmas.Bool.{ne_eqb, lt-ltb, or_right, cond-true, cond-false}
use Rattle.control.specs.declared.control.Control.{Control}
use Rattle.control.specs.declared.control.Control.TheVariants.{Plain, Push, Pop, JumpIf, Jump, Call, Return, End}
use Rattle.control.specs.Texts.{at, ground, stacked, depth, called, starts, section, ranks, rank}
use Rattle.control.specs.Rules.{address, KeepsRules, Inside}
use Rattle.control.specs.Machine.{State, start, Outcome, Goes, Ends, Faults, back, moved, move, run}
use Rattle.control.specs.Promises.{Sound, NeverFaults}
use Rattle.control.proofs.Sections.{section_begins, rank_begins, rank_by_section, asked_by_call}
use Rattle.control.proofs.Keeping.{judged, judged_at, Follows, plain_keeps, push_keeps, pop_keeps, jump_if_keeps, jump_keeps, call_keeps, return_keeps, called_by, low_rank}

-- the return addresses: each in a caller's section, at depth 0 and of lower rank; none in the first section
abbrev pub Chain : List Control → ℕ → List ℕ → Type 0
Chain text pc [] = section text pc ≡ 0
Chain text pc (r ∷ rs) =
    ((section text pc ≡ 0) → ⊥) × ((r < length text) × ((depth text r ≡ ground) × ((rank text r < rank text pc) × Chain text r rs)))

pub record Good (text : List Control) (s : State) : Type 0 where
  pub inside : s.pc < length text
  pub level : depth text s.pc ≡ ground + s.held
  pub few : s.held ≤ 8
  pub chain : Chain text s.pc s.returns

depth_after : (text : List Control) (n : ℕ) (c : Control) → at text n ≡ c → depth text (suc n) ≡ stacked c (depth text n)
unfolding depth
depth_after text n c e = ap (λ k. stacked k (depth text n)) e

-- a chain depends on the section alone
chain_within : (text : List Control) (m n : ℕ) (rs : List ℕ) → section text m ≡ section text n → Chain text m rs → Chain text n rs
chain_within text m n [] e c = sym e ∙ c
chain_within text m n (r ∷ rs) e c =
    let same = rank_by_section text m n e in
    ((λ z. c.0 (e ∙ z)), (c.1.0, (c.1.1.0, (omega (arith, c.1.1.1.0), c.1.1.1.1))))

chain_length : (text : List Control) (n : ℕ) (rs : List ℕ) → Chain text n rs → length rs ≤ rank text n
chain_length text n [] c = omega arith
chain_length text n (r ∷ rs) c = omega (arith, c.1.1.1.0, chain_length text r rs c.1.1.1.1)

-- what a move may lead to
abbrev pub Fine : List Control → Outcome → Type 0
Fine text (Goes s) = Good text s
Fine text Ends = Unit {0}
Fine text (Faults e) = ⊥

module _ (text : List Control) (inside : Inside text) (keeps : KeepsRules text) where
  -- to another place of the same section, at a depth that fits
  within : (s : State) (n held : ℕ) → Good text s → n < length text → section text n ≡ section text s.pc → depth text n ≡ ground + held → held ≤ 8
      → Good text (record { pc = n; held = held; returns = s.returns })
  within s n held g lt e d few = record { inside = lt; level = d; few = few; chain = chain_within text s.pc n s.returns (sym e) g.chain }

  next : (s : State) (held : ℕ) (g : Good text s) → Follows text s.pc g.inside → depth text (suc s.pc) ≡ ground + held → held ≤ 8
      → Good text (record { pc = s.pc + 1; held = held; returns = s.returns })
  next s held g f d few =
      subst (λ n. Good text (record { pc = n; held = held; returns = s.returns })) (sym (add-one s.pc))
      (within s (suc s.pc) held g f.within f.same_section d few)

  unbroken : (s : State) (g : Good text s) (k : Control) → at text s.pc ≡ k → judged k text s.pc ≡ None
  unbroken s g k e = judged_at text s.pc k e (keeps s.pc g.inside)

  address_inside : (s : State) (g : Good text s) (k : Control) → at text s.pc ≡ k → address k < length text
  address_inside s g k e = subst (λ x. address x < length text) e (inside s.pc g.inside)

  rank_called : (k : ℕ) → 0 < k → starts text k ≡ true → rank text k ≡ (ranks text k).asked k
  rank_called zero lt h = absurd (omega arith)
  rank_called (suc k) lt h = rank_begins text k h

  to_callee : (s : State) (g : Good text s) (k : ℕ) → at text s.pc ≡ Call k
      → Good text (record { pc = k; held = s.held; returns = (s.pc + 1) ∷ s.returns })
  to_callee s g k e =
      let well = call_keeps text s.pc g.inside k (unbroken s g (Call k) e) in
      let back = well.comes_back in
      let begins : starts text k ≡ true = or_right (eqb k 0) (called text k) (called_by text s.pc k g.inside e) in
      let lower = asked_by_call text s.pc k k well.forward e in
      let callee = rank_called k (omega (arith, well.forward)) begins in
      let level_back : depth text (s.pc + 1) ≡ ground = ap (λ n. depth text n) (add-one s.pc) ∙ (depth_after text s.pc (Call k) e ∙ well.level) in
      let rank_back : rank text (s.pc + 1) ≡ rank text s.pc = ap (λ n. rank text n) (add-one s.pc) ∙ back.same_rank in
      let section_back : section text s.pc ≡ section text (s.pc + 1) = sym (ap (λ n. section text n) (add-one s.pc) ∙ back.same_section) in
      record {
        inside = address_inside s g (Call k) e;
        level = omega (arith, g.level, well.level, well.level_there);
        few = g.few;
        chain = (
          (λ z. omega (arith, section_begins text k begins, well.forward)),
          (
            omega (arith, back.within),
            (
              level_back,
              (
                omega (arith, rank_back, lower, callee),
                chain_within text s.pc (s.pc + 1) s.returns section_back g.chain,
              ),
            ),
          ),
        );
      }

  fine_back : (s : State) (g : Good text s) → at text s.pc ≡ Return → (rs : List ℕ) → Chain text s.pc rs → Fine text (back s rs)
  fine_back s g e [] c = (return_keeps text s.pc g.inside (unbroken s g Return e)).1 c
  fine_back s g e (r ∷ rs) c =
      let keep = return_keeps text s.pc g.inside (unbroken s g Return e) in
      record { inside = c.1.0; level = omega (arith, g.level, keep.0, c.1.1.0); few = g.few; chain = c.1.1.1.1 }

  fine_by : (k : Control) (c : Bool) (s : State) (g : Good text s) → at text s.pc ≡ k → Fine text (moved k c s)
  fine_by Plain c s g e =
      next s s.held g (plain_keeps text s.pc g.inside (unbroken s g Plain e)) (depth_after text s.pc Plain e ∙ g.level) g.few
  fine_by Push c s g e =
      let keep = push_keeps text s.pc g.inside (unbroken s g Push e) in
      let room = ne_eqb s.held 8 (λ full. keep.0 (g.level ∙ ap (λ h. ground + h) full)) in
      let low : (s.held ≡ 8) → ⊥ = λ full. keep.0 (g.level ∙ ap (λ h. ground + h) full) in
      subst (Fine text) (sym (cond-false (eqb s.held 8) (Faults 0x03) (Goes (record { pc = s.pc + 1; held = s.held + 1; returns = s.returns })) room))
      (next s (s.held + 1) g keep.1 (omega (arith, depth_after text s.pc Push e, g.level)) (omega (arith, g.few, low)))
  fine_by Pop c s g e =
      let keep = pop_keeps text s.pc g.inside (unbroken s g Pop e) in
      let some : (s.held ≡ 0) → ⊥ = λ none. keep.0 (g.level ∙ ap (λ h. ground + h) none) in
      subst (Fine text) (sym (cond-false (eqb s.held 0) (Faults 0x04) (Goes (record { pc = s.pc + 1; held = s.held - 1; returns = s.returns })) (ne_eqb s.held 0 some)))
      (next s (s.held - 1) g keep.1 (omega (arith, depth_after text s.pc Pop e, g.level, some)) (omega (arith, g.few)))
  fine_by (JumpIf k) true s g e =
      let keep = jump_if_keeps text s.pc g.inside k (unbroken s g (JumpIf k) e) in
      within s k s.held g (address_inside s g (JumpIf k) e) keep.1 (keep.0 ∙ g.level) g.few
  fine_by (JumpIf k) false s g e =
      let keep = jump_if_keeps text s.pc g.inside k (unbroken s g (JumpIf k) e) in
      next s s.held g keep.2 (depth_after text s.pc (JumpIf k) e ∙ g.level) g.few
  fine_by (Jump k) c s g e =
      let keep = jump_keeps text s.pc g.inside k (unbroken s g (Jump k) e) in
      within s k s.held g (address_inside s g (Jump k) e) keep.1 (keep.0 ∙ g.level) g.few
  fine_by (Call k) c s g e =
      let well = call_keeps text s.pc g.inside k (unbroken s g (Call k) e) in
      let deep = chain_length text s.pc s.returns g.chain in
      let low = low_rank text keeps s.pc g.inside in
      let shallow = well.shallow in
      let room : (length s.returns ≡ 8) → ⊥ = λ full. shallow (omega arith) in
      subst (Fine text) (sym (cond-false (eqb (length s.returns) 8) (Faults 0x05) (Goes (record { pc = k; held = s.held; returns = (s.pc + 1) ∷ s.returns })) (ne_eqb (length s.returns) 8 room)))
      (to_callee s g k e)
  fine_by Return c s g e = fine_back s g e s.returns g.chain
  fine_by End c s g e = tt

  pub fine : (c : Bool) (s : State) → Good text s → Fine text (move text c s)
  unfolding move
  fine c s g =
      subst (Fine text) (sym (cond-true (ltb s.pc (length text)) (moved (at text s.pc) c s) (Faults 0x08) (lt-ltb s.pc (length text) g.inside)))
      (fine_by (at text s.pc) c s g refl)

  run_fine : (o : Outcome) (cs : List Bool) → Fine text o → Fine text (run text o cs)
  unfolding run
  run_fine o [] f = f
  run_fine (Goes s) (c ∷ cs) f = run_fine (move text c s) cs (fine c s f)
  run_fine Ends (c ∷ cs) f = f
  run_fine (Faults e) (c ∷ cs) f = f

  sound : (o : Outcome) → Fine text o → Sound text o
  sound (Goes s) f = f.inside
  sound Ends f = tt
  sound (Faults e) f = f

  pub good_start : 0 < length text → Good text start
  unfolding depth section
  good_start h = record { inside = h; level = refl; few = omega arith; chain = refl }

  pub never_faults : 0 < length text → NeverFaults text
  never_faults h cs = sound (run text (Goes start) cs) (run_fine (Goes start) cs (good_start h))
