-- Arguments in step with parameters: what a loop over both has come to.
use Rattle.std.proofs.Common.{◌≡◌, ℕ, zero, suc, ◌+◌, ◌-◌, ◌<◌, ◌≤◌, Bool, ◌&&◌, List, [], ◌∷◌, ◌++◌, length, get_or, take, drop, set, replicate, sym, refl, ap, ap₂, ◌∙◌, arith}
use Rattle.std.proofs.lemmas.List.{drop_more, append_assoc, set_at, length_push}
use Rattle.std.proofs.Math.Seq.{get_or-append_seam}
use Rattle.table.specs.declared.types.Ty.{Ty}
use Rattle.table.specs.Program.{Program}
use Rattle.rules.specs.Rules.{callee, number}
use Rattle.machine.specs.declared.threads.Frame.{Frame}
use Rattle.stepping.specs.Calling.{suit_at, handed}
use Rattle.machine.specs.declared.threads.Slot.{Slot}
use Rattle.machine.specs.declared.threads.Slot.TheVariants.{Empty}
use Rattle.std.specs.List.{list_all, enumerate_from}
use Rattle.machine.specs.Values.{left, given, suits, at, all_given, all_suit, leaving, passing}

-- a step of any function of the two lists
pub both_more : {Y : Type 0} (F : List ℕ → List Ty → Y) (xs : List ℕ) (ts : List Ty) (i : ℕ) → i < length xs → i < length ts
    → F (drop i xs) (drop i ts) ≡ F (get_or xs i 0 ∷ drop (i + 1) xs) (get_or ts i number ∷ drop (i + 1) ts)
both_more F xs ts i l m = ap (λ ys. F ys (drop i ts)) (drop_more xs i 0 l) ∙ ap (F (get_or xs i 0 ∷ drop (i + 1) xs)) (drop_more ts i number m)

pub none_leave : (vs : List Slot) (us : List Ty) → leaving vs [] us ≡ vs
none_leave vs [] = refl
none_leave vs (t ∷ us) = refl

-- operands past the parameters are not handed over
pub leaving_front : (vs : List Slot) (xs : List ℕ) (ts : List Ty) → leaving vs (take (length ts) xs) ts ≡ leaving vs xs ts
leaving_front vs xs [] = refl
leaving_front vs [] (t ∷ ts) = refl
leaving_front vs (x ∷ xs) (t ∷ ts) = leaving_front (set vs x (left t (get_or vs x Empty))) xs ts

pub passing_front : (vs : List Slot) (xs : List ℕ) (ts : List Ty) (n : ℕ) → passing vs (take (length ts) xs) ts n ≡ passing vs xs ts n
passing_front vs xs [] n = refl
passing_front vs [] (t ∷ ts) n = refl
passing_front vs (x ∷ xs) (t ∷ ts) n = ap (λ ys. get_or vs x Empty ∷ ys) (passing_front vs xs ts (n - 1))

pub handed_front : (p : Program) (F : Frame) (n : ℕ) (xs : List ℕ) → handed p F n (take (length (callee p n).params) xs) ≡ handed p F n xs
handed_front p F n xs = let ts = (callee p n).params in let e = leaving_front F.slots xs ts in let f = passing_front F.slots xs ts 16 in cc

-- the same slots, written one by one
abbrev pub filled : List Slot → ℕ → List Slot → List ℕ → List Ty → List Slot
filled cs i vs xs [] = cs
filled cs i vs [] (t ∷ ts) = cs
filled cs i vs (x ∷ xs) (t ∷ ts) = filled (set cs i (get_or vs x Empty)) (i + 1) vs xs ts

pub none_fill : (cs : List Slot) (i : ℕ) (vs : List Slot) (us : List Ty) → filled cs i vs [] us ≡ cs
none_fill cs i vs [] = refl
none_fill cs i vs (t ∷ us) = refl

pub filled_passing : (ys : List Slot) (n : ℕ) (vs : List Slot) (xs : List ℕ) (ts : List Ty) → length xs ≤ n → filled (ys ++ replicate n Empty) (length ys) vs xs ts ≡ ys ++ passing vs xs ts n
filled_passing ys n vs xs [] h = refl
filled_passing ys n vs [] (t ∷ ts) h = refl
filled_passing ys zero vs (x ∷ xs) (t ∷ ts) h = absurd (omega arith)
filled_passing ys (suc k) vs (x ∷ xs) (t ∷ ts) h =
    let v = get_or vs x Empty in
    let m : length xs ≤ k = omega arith in
    let w : set (ys ++ replicate (suc k) Empty) (length ys) v ≡ (ys ++ (v ∷ [])) ++ replicate k Empty = set_at ys Empty (replicate k Empty) v (length ys) refl ∙ sym (append_assoc ys (v ∷ []) (replicate k Empty)) in
    let one : suc k - 1 ≡ k = omega arith in
    ap (λ cs. filled cs (length ys + 1) vs xs ts) w
    ∙ ap (λ i. filled ((ys ++ (v ∷ [])) ++ replicate k Empty) i vs xs ts) (sym (length_push ys v))
    ∙ filled_passing (ys ++ (v ∷ [])) k vs xs ts m
    ∙ append_assoc ys (v ∷ []) (passing vs xs ts k)
    ∙ ap (λ i. ys ++ (v ∷ passing vs xs ts i)) (sym one)

-- one argument more: the caller's slots, and the callee's
module _ (xs : List ℕ) (ts : List Ty) (i : ℕ) (l : i < length xs) (m : i < length ts) where
  pub leaves_more : (us vs rest : List Slot) (u v : Slot) (t : Ty) → vs ≡ set us (get_or xs i 0) v → v ≡ left t u → u ≡ at us (get_or xs i 0) → t ≡ get_or ts i number
      → leaving us (drop i xs) (drop i ts) ≡ rest → leaving vs (drop (i + 1) xs) (drop (i + 1) ts) ≡ rest
  leaves_more us vs rest u v t a b c d h =
      let x = get_or xs i 0 in
      ap (λ ws. leaving ws (drop (i + 1) xs) (drop (i + 1) ts)) (a ∙ ap (set us x) (b ∙ ap (left t) c ∙ ap (λ (k : Ty). left k (at us x)) d))
      ∙ sym (both_more (leaving us) xs ts i l m) ∙ h

  pub fills_more : (cs ds vs rest : List Slot) (v : Slot) → ds ≡ set cs i v → v ≡ at vs (get_or xs i 0)
      → filled cs i vs (drop i xs) (drop i ts) ≡ rest → filled ds (i + 1) vs (drop (i + 1) xs) (drop (i + 1) ts) ≡ rest
  fills_more cs ds vs rest v a b h =
      ap (λ ws. filled ws (i + 1) vs (drop (i + 1) xs) (drop (i + 1) ts)) (a ∙ ap (set cs i) b)
      ∙ sym (both_more (filled cs i vs) xs ts i l m) ∙ h

-- the tests of all pairs, as tests of a list
pub all_given_is : (vs : List Slot) (xs : List ℕ) (ts : List Ty) → list_all (given vs) (take (length ts) xs) ≡ all_given vs xs ts
all_given_is vs xs [] = refl
all_given_is vs [] (t ∷ ts) = refl
all_given_is vs (x ∷ xs) (t ∷ ts) = ap (λ b. given vs x && b) (all_given_is vs xs ts)

pub all_suit_is : (vs : List Slot) (us ts : List Ty) (xs : List ℕ) → list_all (suit_at vs (us ++ ts)) (enumerate_from (length us) (take (length ts) xs)) ≡ all_suit vs xs ts
all_suit_is vs us [] xs = refl
all_suit_is vs us (t ∷ ts) [] = refl
all_suit_is vs us (t ∷ ts) (x ∷ xs) =
    let ys = take (length ts) xs in
    ap₂ (λ (k : Ty) (b : Bool). suits k (at vs x) && b) (get_or-append_seam us t ts number)
    (ap₂ (λ (n : ℕ) (ks : List Ty). list_all (suit_at vs ks) (enumerate_from n ys)) (sym (length_push us t)) (sym (append_assoc us (t ∷ []) ts)) ∙ all_suit_is vs (us ++ (t ∷ [])) ts xs)

pub all_suit_first : (vs : List Slot) (xs : List ℕ) (ts : List Ty) → list_all (suit_at vs ts) (enumerate_from 0 (take (length ts) xs)) ≡ all_suit vs xs ts
all_suit_first vs xs ts = all_suit_is vs [] ts xs
