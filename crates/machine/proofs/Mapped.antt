-- An array that was mapped by a closure that changes nothing.
use Rattle.std.proofs.Common.{◌≡◌, ℕ, zero, suc, ◌+◌, ◌<◌, ◌≤◌, List, map, length, get_or, refl, sym, ap, ◌∙◌, subst, inl, inr, arith}
use Rattle.std.specs.Fn.{Mut, Called}
use Rattle.std.specs.Array.{MapsFrom, IsMapOf}
use Rattle.std.proofs.lemmas.Bool.{cases_lt}
use Rattle.std.proofs.lemmas.List.{ext_get_or, get_or-map, length-map}

module _ {F A B : Type 0} (g : Mut F (A × Unit {0}) B) (k : A → B) (f : F) (step : (x : A) (y : B) (q : F) → Called g f (x, tt) y q → (y ≡ k x) × (q ≡ f)) where
  mapped_at : (h : F) (xs : List A) (ys : List B) (i n j : ℕ) (d : A) (e : B) → h ≡ f → MapsFrom g h xs ys i n → i ≤ j → j < i + n → get_or ys j e ≡ k (get_or xs j d)
  mapped_at h xs ys i zero j d e is w lo hi = absurd (omega arith)
  mapped_at h xs ys i (suc n) j d e is w lo hi =
      let s = step w.1 w.2 w.0 (subst (λ z. Called g z (w.1, tt) w.2 w.0) is w.5) in
      elim (cases_lt i j) [
        | inl l ↦ mapped_at w.0 xs ys (i + 1) n j d e s.1 w.6 (omega arith) (omega arith)
        | inr l ↦
            let same : j ≡ i = omega arith in
            ap (λ z. get_or ys z e) same ∙ w.4.1 e ∙ s.0 ∙ sym (ap k (ap (λ z. get_or xs z d) same ∙ w.3.1 d))
      ]

  pub mapped : (xs : List A) (ys : List B) (n : ℕ) → A → B → length xs ≡ n → IsMapOf g f xs ys n → ys ≡ map k xs
  mapped xs ys n d e long w =
      ext_get_or e ys (map k xs) (w.long ∙ sym long ∙ sym (length-map xs k))
      (λ i h. mapped_at f xs ys 0 n i d e refl w.each (omega arith) (let z = w.long in omega arith) ∙ sym (get_or-map k xs i d e (let z = w.long in omega arith)))
