-- Steps of threads in turn, one by one.
use Rattle.std.proofs.Common.{◌≡◌, ℕ, zero, suc, ◌+◌, ◌-◌, ◌<◌, ◌≤◌, Bool, false, cond, eqb, List, [], ◌∷◌, ◌++◌, length, get_or, drop, Some, None, Option, Result, sym, refl, ap, ◌∙◌, arith}
use Rattle.std.proofs.lemmas.List.{append-nil, drop_more, drop_all}
use Rattle.std.proofs.lemmas.Bool.{ne_eqb}
use Rattle.table.specs.declared.fault.Fault.{Fault}
use Rattle.table.specs.Program.{Program}
use Rattle.machine.specs.World.{World}
use Rattle.machine.specs.Steps.{Taken, stepped, after_step, put_out}
use Rattle.stepping.specs.Committing as C
use Rattle.safety.specs.Runs.{Ran, listed, ran_step, took, Counted, ran_within, all_threads, rounds}

listed_same : (xs : List ℕ) (o : Option ℕ) → C.listed xs o ≡ xs ++ listed o
listed_same xs None = sym (append-nil xs)
listed_same xs (Some n) = refl

module _ (p : Program) (size : ℕ) where
  -- what a step leaves, with a list of this size
  pub steps_on : (W V : World) (xs ys : List ℕ) (room i : ℕ) → room ≡ size → V ≡ after_step W (stepped p (room - length xs) W i) → ys ≡ C.listed xs (put_out (stepped p (room - length xs) W i))
      → ◌≡◌ {A = Ran} (record { world = V; out = ys }) (ran_step p size (record { world = W; out = xs }) i)
  steps_on W V xs ys room i e hw ho =
      let s = ap (λ (k : ℕ). stepped p (k - length xs) W i) e in
      let a = hw ∙ ap (after_step W) s in
      let b = ho ∙ listed_same xs (put_out (stepped p (room - length xs) W i)) ∙ ap (λ (t : Result Taken Fault). xs ++ listed (put_out t)) s in
      both _ _ _ _ a b
    where
      both : (U V : World) (us vs : List ℕ) → U ≡ V → us ≡ vs → ◌≡◌ {A = Ran} (record { world = U; out = us }) (record { world = V; out = vs })
      both U V us vs a b = cc

  -- no more are taken, or no thread is left
  pub within_spent : (limit : ℕ) (R : Ran) (is : List ℕ) → limit ≡ 0 → ran_within p size limit R is ≡ record { ran = R; taken = 0 }
  within_spent limit R [] e = refl
  within_spent limit R (i ∷ is) e =
      let k = took (stepped p (size - length R.out) R.world i) in
      let rest = ran_within p size (limit - k) (ran_step p size R i) is in
      ap (λ (n : ℕ). cond {A = Counted} (eqb n 0) (record { ran = R; taken = 0 }) (record { ran = rest.ran; taken = k + rest.taken })) e

  pub within_end : (limit : ℕ) (R : Ran) (xs : List ℕ) (j : ℕ) → length xs ≤ j → ran_within p size limit R (drop j xs) ≡ record { ran = R; taken = 0 }
  within_end limit R xs j l = ap (ran_within p size limit R) (drop_all j xs l)

  -- one thread more
  pub within_more : (limit : ℕ) (R : Ran) (xs : List ℕ) (j : ℕ) → 0 < limit → j < length xs
      → ran_within p size limit R (drop j xs)
      ≡ record {
        ran = (ran_within p size (limit - took (stepped p (size - length R.out) R.world (get_or xs j 0))) (ran_step p size R (get_or xs j 0)) (drop (j + 1) xs)).ran;
        taken = took (stepped p (size - length R.out) R.world (get_or xs j 0)) + (ran_within p size (limit - took (stepped p (size - length R.out) R.world (get_or xs j 0))) (ran_step p size R (get_or xs j 0)) (drop (j + 1) xs)).taken;
      }
  within_more limit R xs j h l =
      let i = get_or xs j 0 in
      let k = took (stepped p (size - length R.out) R.world i) in
      let rest = ran_within p size (limit - k) (ran_step p size R i) (drop (j + 1) xs) in
      let z : eqb limit 0 ≡ false = ne_eqb limit 0 (λ (e : limit ≡ 0). omega arith) in
      ap (ran_within p size limit R) (drop_more xs j 0 l)
      ∙ ap (λ (b : Bool). cond {A = Counted} b (record { ran = R; taken = 0 }) (record { ran = rest.ran; taken = k + rest.taken })) z

  -- the same as a loop has it, which has taken so many
  pub goes_on : (limit taken k : ℕ) (R R' : Ran) (xs : List ℕ) (j : ℕ) → taken < limit → j < length xs → R' ≡ ran_step p size R (get_or xs j 0) → k ≡ took (stepped p (size - length R.out) R.world (get_or xs j 0))
      → ((ran_within p size (limit - (taken + k)) R' (drop (j + 1) xs)).ran ≡ (ran_within p size (limit - taken) R (drop j xs)).ran)
      × ((taken + k) + (ran_within p size (limit - (taken + k)) R' (drop (j + 1) xs)).taken ≡ taken + (ran_within p size (limit - taken) R (drop j xs)).taken)
  goes_on limit taken k R R' xs j h l e f =
      let i = get_or xs j 0 in
      let t = took (stepped p (size - length R.out) R.world i) in
      let o : 0 < limit - taken = omega arith in
      let m = within_more (limit - taken) R xs j o l in
      let n : limit - (taken + k) ≡ limit - taken - t = omega (arith, f) in
      let s : ran_within p size (limit - (taken + k)) R' (drop (j + 1) xs) ≡ ran_within p size (limit - taken - t) (ran_step p size R i) (drop (j + 1) xs) =
      ap (λ (x : ℕ). ran_within p size x R' (drop (j + 1) xs)) n ∙ ap (λ (x : Ran). ran_within p size (limit - taken - t) x (drop (j + 1) xs)) e in
      let a = ap (λ (c : Counted). c.taken) m in
      let b = ap (λ (c : Counted). c.taken) s in (
        ap (λ (c : Counted). c.ran) s ∙ sym (ap (λ (c : Counted). c.ran) m),
        omega (arith, a, b, f),
      )

  -- no step is left to take
  pub rounds_spent : (n limit : ℕ) (R : Ran) → limit ≡ 0 → rounds n p size limit R ≡ record { ran = R; taken = 0 }
  rounds_spent zero limit R e = refl
  rounds_spent (suc n) limit R e =
      ap (λ (c : Counted). cond {A = Counted} (eqb c.taken 0) c (record { ran = (rounds n p size (limit - c.taken) c.ran).ran; taken = c.taken + (rounds n p size (limit - c.taken) c.ran).taken })) (within_spent limit R all_threads e)

  -- a round that was all refusals, and one that was not
  module _ (limit : ℕ) (R S : Ran) (more : ℕ) (m : more ≡ (ran_within p size limit R all_threads).taken) (s : S ≡ (ran_within p size limit R all_threads).ran) where
    pub rounds_end : (n : ℕ) → 0 < limit → limit ≤ n → more ≡ 0 → (S ≡ (rounds n p size limit R).ran) × ((rounds n p size limit R).taken ≡ 0)
    rounds_end zero h l z = absurd (omega arith)
    rounds_end (suc n) h l z =
        let c = ran_within p size limit R all_threads in
        let rest = rounds n p size (limit - c.taken) c.ran in
        let o : c.taken ≡ 0 = sym m ∙ z in
        let e = ap (λ (k : ℕ). cond {A = Counted} (eqb k 0) c (record { ran = rest.ran; taken = c.taken + rest.taken })) o in
        (s ∙ sym (ap (λ (x : Counted). x.ran) e), ap (λ (x : Counted). x.taken) e ∙ o)

    pub rounds_more : (n : ℕ) → 0 < limit → limit ≤ n → (more ≡ 0 → ⊥)
        → (k : ℕ) × (limit - more ≤ k) × ((rounds k p size (limit - more) S).ran ≡ (rounds n p size limit R).ran) × (more + (rounds k p size (limit - more) S).taken ≡ (rounds n p size limit R).taken)
    rounds_more zero h l z = absurd (omega arith)
    rounds_more (suc n) h l z =
        let c = ran_within p size limit R all_threads in
        let rest = rounds n p size (limit - c.taken) c.ran in
        let o : eqb c.taken 0 ≡ false = ne_eqb c.taken 0 (λ (e : c.taken ≡ 0). z (m ∙ e)) in
        let e = ap (λ (b : Bool). cond {A = Counted} b c (record { ran = rest.ran; taken = c.taken + rest.taken })) o in
        let same : rounds n p size (limit - more) S ≡ rounds n p size (limit - c.taken) c.ran = ap (λ (k : ℕ). rounds n p size (limit - k) S) m ∙ ap (rounds n p size (limit - c.taken)) s in
        let a = ap (λ (x : Counted). x.taken) e in
        let b = ap (λ (x : Counted). x.taken) same in
        let few : limit - more ≤ n = by n limit more l z in
        (n, few, ap (λ (x : Counted). x.ran) same ∙ sym (ap (λ (x : Counted). x.ran) e), omega (arith, a, b, m))
      where
        by : (n limit more : ℕ) → limit ≤ suc n → (more ≡ 0 → ⊥) → limit - more ≤ n
        by n limit zero l z = absurd (z refl)
        by n limit (suc k) l z = omega arith
