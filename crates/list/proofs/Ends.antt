-- The end of a list: its last item, and what stands before it.
use Rattle.std.proofs.Common.{◌≡◌, ℕ, zero, suc, ◌-◌, ◌<◌, List, [], ◌∷◌, ◌++◌, reverse, length, take, Some, None, sym, refl, ap, ◌∙◌, arith, length-take}
use Rattle.std.proofs.lemmas.List.{reverse-append}
use Rattle.std.specs.List.{slice_get}
use Rattle.list.specs.Held.{last_of, popped}

pub last_is : {X : Type 0} (xs : List X) → slice_get xs (length xs - 1) ≡ last_of xs
last_is [] = refl
last_is (x ∷ []) = refl
last_is (x ∷ (y ∷ ys)) =
    let e : length (x ∷ (y ∷ ys)) - 1 ≡ suc (length (y ∷ ys) - 1) = omega arith in
    ap (λ (n : ℕ). slice_get (x ∷ (y ∷ ys)) n) e ∙ last_is (y ∷ ys)

-- a list that has a last item ends with it
pub last_push : {X : Type 0} (xs : List X) (x : X) → Some x ≡ last_of xs → xs ≡ popped xs ++ (x ∷ [])
last_push [] x h = let z : ◌≡◌ {A = ℕ} 0 1 = cc in absurd (omega arith)
last_push (y ∷ []) x h = let e : y ≡ x = cc in ap (λ v. v ∷ []) e
last_push (y ∷ (z ∷ zs)) x h =
    let k : length (y ∷ (z ∷ zs)) - 1 ≡ suc (length (z ∷ zs) - 1) = omega arith in
    ap (λ ys. y ∷ ys) (last_push (z ∷ zs) x h) ∙ ap (λ (n : ℕ). take n (y ∷ (z ∷ zs)) ++ (x ∷ [])) (sym k)

pub last_none : {X : Type 0} (xs : List X) → None ≡ last_of xs → xs ≡ []
last_none [] h = refl
last_none (x ∷ []) h = let z : ◌≡◌ {A = ℕ} 0 1 = cc in absurd (omega arith)
last_none (x ∷ (y ∷ ys)) h = let e : y ∷ ys ≡ [] = last_none (y ∷ ys) h in let z : ◌≡◌ {A = ℕ} 0 1 = cc in absurd (omega arith)

pub popped_less : {X : Type 0} (xs : List X) (x : X) → Some x ≡ last_of xs → length (popped xs) < length xs
popped_less [] x h = let z : ◌≡◌ {A = ℕ} 0 1 = cc in absurd (omega arith)
popped_less (y ∷ ys) x h = let e = length-take (length (y ∷ ys) - 1) (y ∷ ys) in omega arith

-- the last item first
pub reverse_push : {X : Type 0} (xs : List X) (x : X) → reverse (xs ++ (x ∷ [])) ≡ x ∷ reverse xs
reverse_push xs x = reverse-append xs (x ∷ [])

pub reverse_last : {X : Type 0} (xs : List X) (x : X) → Some x ≡ last_of xs → reverse xs ≡ x ∷ reverse (popped xs)
reverse_last xs x h = ap reverse (last_push xs x h) ∙ reverse_push (popped xs) x

-- so many items as the front has are the front
pub front_is : {X : Type 0} (n : ℕ) (xs : List X) → take (length (take n xs)) xs ≡ take n xs
front_is zero xs = refl
front_is (suc n) [] = refl
front_is (suc n) (x ∷ xs) = ap (λ ys. x ∷ ys) (front_is n xs)
