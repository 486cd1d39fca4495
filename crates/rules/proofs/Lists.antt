-- The tests of a list, in the words of std.
use Rattle.std.proofs.Common.{◌≡◌, ℕ, ◌+◌, ◌-◌, ◌≤◌, Bool, true, false, cond, not, ◌&&◌, eqb, ltb, List, [], ◌∷◌, length, get_or, take, drop, map, Some, Option, sym, refl, ap, ◌∙◌, inl, inr, arith}
use Rattle.std.specs.List.{find, list_all, list_any, enumerate_from}
use Rattle.std.specs.Option.{option_map}
use Rattle.std.proofs.lemmas.List.{drop_more, take_all}
use Rattle.std.proofs.lemmas.Bool.{eq-eqb, ne_eqb, cases_eq}
use Rattle.table.specs.declared.fault.Refusal.{Refusal}
use Rattle.table.specs.declared.types.Ty.{Ty}
use Rattle.table.specs.Faults.{number_of}
use Rattle.rules.specs.Rules.{first, below, lacks, distinct, flows, slot, flow_to, number}
use Rattle.rules.specs.Scoped.{by_number}

-- a premise that fails, and the number of its refusal
abbrev pub fails : Refusal × Bool → Bool
fails q = not q.1

abbrev pub failed : Option (Refusal × Bool) → Option ℕ
failed = option_map (λ (q : Refusal × Bool). number_of q.0)

pub first_found : (qs : List (Refusal × Bool)) → first (map by_number qs) ≡ failed (find fails qs)
first_found [] = refl
first_found (q ∷ qs) =
    ap (λ o. cond q.1 o (Some (number_of q.0))) (first_found qs) ∙ of q.1
  where
    of : (b : Bool) → cond b (failed (find fails qs)) (Some (number_of q.0)) ≡ failed (cond (not b) (Some q) (find fails qs))
    of true = refl
    of false = refl

pub below_all : (d : ℕ) (xs : List ℕ) → below d xs ≡ list_all (λ x. ltb x d) xs
below_all d [] = refl
below_all d (x ∷ xs) = ap (λ b. ltb x d && b) (below_all d xs)

-- arguments and parameters in step
pub flow_all : (ts ps : List Ty) (i : ℕ) (xs : List ℕ) → i + length xs ≤ length ps
    → flow_to ts xs (drop i ps) ≡ list_all (λ (q : ℕ × ℕ). flows (slot ts q.1) (get_or ps q.0 number)) (enumerate_from i xs)
flow_all ts ps i [] h = refl
flow_all ts ps i (x ∷ xs) h =
    rw (drop_more ps i number (omega arith)) (ap (λ b. flows (slot ts x) (get_or ps i number) && b) (flow_all ts ps (i + 1) xs (omega arith)))

pub lacks_none : (x : ℕ) (ys : List ℕ) → not (list_any (λ y. eqb y x) ys) ≡ lacks x ys
lacks_none x [] = refl
lacks_none x (y ∷ ys) =
    elim (cases_eq x y) [
      | inl e ↦ rw (eq-eqb y x (sym e), eq-eqb x y e) refl
      | inr d ↦ rw (ne_eqb y x (λ e. d (sym e)), ne_eqb x y d) (lacks_none x ys)
    ]

-- the first of a slice, and the rest as the code cuts it
abbrev pub rest : List ℕ → List ℕ
rest xs = take (length xs - 1) (drop 1 xs)

pub differ_first : (xs : List ℕ) (b : Bool) → 1 ≤ length xs → b ≡ list_any (λ y. eqb y (get_or xs 0 0)) (rest xs)
    → (b ≡ false → distinct xs ≡ distinct (rest xs)) × (b ≡ true → distinct xs ≡ not b)
differ_first [] b l h = absurd (omega arith)
differ_first (x ∷ xs) b l h =
    let all : rest (x ∷ xs) ≡ xs = take_all (length (x ∷ xs) - 1) xs (omega arith) in
    let k : not b ≡ lacks x xs = ap not (h ∙ ap (list_any (λ y. eqb y x)) all) ∙ lacks_none x xs in
    (λ e. ap (λ c. c && distinct xs) (sym k ∙ ap not e) ∙ sym (ap distinct all), λ e. ap (λ c. c && distinct xs) (sym k ∙ ap not e) ∙ sym (ap not e))
