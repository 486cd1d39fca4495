-- A program is accepted exactly when each of its records satisfies all that is asked of it.
use Rattle.std.proofs.Common.{◌≡◌, ℕ, suc, ◌+◌, ◌<◌, List, [], ◌∷◌, length, get_or, Some, None, Ok, Option, sym, refl, ap, ◌∙◌, add-zero, zero-add, arith}
use Rattle.table.specs.Faults.{Passes, ◌>>=◌}
use Rattle.table.specs.Records.{Op}
use Rattle.table.specs.Program.{Function, Program}
use Rattle.rules.specs.Rules.{Premise, first, no_function, callee, record_at}
use Rattle.rules.specs.Scopes.{State, asked, refusal, after, walk, read, start, before, bodies, settled}
use Rattle.rules.specs.Blocks.{Accepted}
use Rattle.rules.specs.Laws.{Holds, Obeys, VerdictLawful}
use Rattle.rules.proofs.Steps.{first_cons, verdict_stands}

pub holds_all : (qs : List Premise) → first qs ≡ None → Holds qs
holds_all [] h = tt
holds_all (q ∷ qs) h = let a = first_cons q qs h in (a.0, holds_all qs a.1)

pub none_fails : (qs : List Premise) → Holds qs → first qs ≡ None
none_fails [] h = refl
none_fails (q ∷ qs) h = rw h.0 (none_fails qs h.1)

module _ (p : Program) (fn : Function) where
  pub obeys : (i : ℕ) (S : State) (r : Option Op) → refusal p fn i S r ≡ None → Obeys p fn i S r
  obeys i S None h = let z : ◌≡◌ {A = ℕ} 0 1 = cc in absurd (omega arith)
  obeys i S (Some op) h = holds_all (asked p fn i S op) h

  pub not_refused : (i : ℕ) (S : State) (r : Option Op) → Obeys p fn i S r → refusal p fn i S r ≡ None
  not_refused i S None h = absurd h
  not_refused i S (Some op) h = none_fails (asked p fn i S op) h

  -- none of these records is refused, so the reading is not
  pub read_through : (k i : ℕ) (S : State) (rs : List (Option Op)) → ((m : ℕ) → m < length rs → refusal p fn (i + m) (walk p fn i S rs m) (get_or rs m None) ≡ None)
      → read p fn k i S rs ≡ Ok tt
  read_through k i S [] h = refl
  read_through k i S (r ∷ rs) h =
      let a : refusal p fn i S r ≡ None = ap (λ n. refusal p fn n S r) (sym (add-zero i)) ∙ h 0 (omega arith) in
      ap (λ o. settled o k i >>= λ _. read p fn k (suc i) (after p fn i S r) rs) a
      ∙ read_through k (suc i) (after p fn i S r) rs (λ m l.
      let e : suc i + m ≡ i + suc m = omega arith in
      ap (λ n. refusal p fn n (walk p fn (suc i) (after p fn i S r) rs m) (get_or rs m None)) e ∙ h (suc m) (omega arith))

  pub accepted_read : (k : ℕ) → Accepted p fn → read p fn k 0 (start p fn) fn.records ≡ Ok tt
  accepted_read k h = read_through k 0 (start p fn) fn.records (λ m l. ap (λ n. refusal p fn n (before p fn m) (record_at fn m)) (zero-add m) ∙ h m l)

pub bodies_through : (p : Program) (n : ℕ) (fs : List Function) → ((k : ℕ) → k < length fs → Accepted p (get_or fs k no_function)) → bodies p n fs ≡ Ok tt
bodies_through p n [] h = refl
bodies_through p n (f ∷ fs) h =
    ap (λ (x : Passes). x >>= λ _. bodies p (suc n) fs) (accepted_read p f n (h 0 (omega arith)))
    ∙ bodies_through p (suc n) fs (λ k l. h (suc k) (omega arith))

pub verdict_lawful : VerdictLawful
verdict_lawful p = (
  λ h n l i m. obeys p (callee p n) i (before p (callee p n) i) (record_at (callee p n) i) (verdict_stands p h n l i m),
  λ h. bodies_through p 0 p.functions (λ n l i m. not_refused p (callee p n) i (before p (callee p n) i) (record_at (callee p n) i) (h n l i m)),
)
