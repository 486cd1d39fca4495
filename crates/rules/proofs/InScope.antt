-- The types in scope as records bind and tests change them, and what the end of a block brings back.
use Rattle.std.proofs.Common.{◌≡◌, ℕ, ◌+◌, ◌<◌, ◌≤◌, ltb, List, [], ◌∷◌, ◌++◌, length, get_or, take, set, Some, None, Option, sym, ap, ◌∙◌, arith, length-set, set-set}
use lib.Seq.{set-get_or}
use Rattle.std.proofs.lemmas.List.{length-append, length-take-le, take_all, take_more, take-take, take-append-le}
use Rattle.std.proofs.lemmas.Bool.{cond-true, lt-ltb}
use Rattle.table.specs.declared.types.Ty.{Ty}
use Rattle.list.specs.Held.{pushed}
use Rattle.rules.specs.declared.in_scope.InScope.{InScope}
use Rattle.rules.specs.declared.in_scope.Saved.{Saved}
use Rattle.rules.specs.Rules.{number}
use Rattle.rules.specs.Scopes.{grown}
use Rattle.rules.specs.InScope.{back, SameList}

-- one more, where there is room
pub push_all : {X : Type 0} (room : ℕ) (xs ys : List X) (x : X) → length xs < room → ys ≡ pushed room xs x → ys ≡ xs ++ (x ∷ [])
push_all room xs ys x l h = h ∙ cond-true (ltb (length xs) room) (xs ++ (x ∷ [])) xs (lt-ltb (length xs) room l)

pub push_grown : (room : ℕ) (ts us : List Ty) (t : Ty) (o : Option Ty) → length ts < room → us ≡ pushed room ts t → Some t ≡ o → us ≡ grown ts o
push_grown room ts us t o l h e = push_all room ts us t l h ∙ ap (grown ts) e

-- parameters are brought into scope one by one
pub one_more : (room i : ℕ) (ts us ps : List Ty) (x : Ty) → ts ≡ take i ps → i < length ps → i < room → us ≡ pushed room ts x → x ≡ get_or ps i number → us ≡ take (i + 1) ps
one_more room i ts us ps x t l r h v =
    let n : length ts ≡ i = ap length t ∙ length-take-le i ps (omega arith) in
    push_all room ts us x (omega arith) h ∙ rw (t, v) (sym (take_more ps i number l))

-- what was in scope stays in front
pub grown_long : (ts : List Ty) (o : Option Ty) → length ts ≤ length (grown ts o)
grown_long ts None = omega arith
grown_long ts (Some t) = omega (arith, length-append ts (t ∷ []))

pub cut_grown : (ts : List Ty) (o : Option Ty) → take (length ts) (grown ts o) ≡ ts
cut_grown ts None = take_all (length ts) ts (omega arith)
cut_grown ts (Some t) = take-append-le (length ts) ts (t ∷ []) (omega arith) ∙ take_all (length ts) ts (omega arith)

pub kept_grown : (ts us zs : List Ty) (o : Option Ty) → us ≡ grown ts o → take (length us) zs ≡ us → take (length ts) zs ≡ ts
kept_grown ts us zs o u h =
    let l : length ts ≤ length us = omega (arith, grown_long ts o, ap length u) in
    sym (take-take (length ts) (length us) zs l) ∙ ap (take (length ts)) (h ∙ u) ∙ cut_grown ts o

-- what comes back is what was there before a slot changed
pub back_set : (ts vs : List Ty) (x : ℕ) (ty : Ty) (s : Saved) → vs ≡ set ts x ty → s.depth ≡ length ts → s.slot ≡ x → s.was ≡ get_or ts x number → back vs s ≡ ts
back_set ts vs x ty s v d i w =
    let l = length-set ts x ty in
    ap (λ (us : List Ty). set (take s.depth us) s.slot s.was) v
    ∙ ap (λ (us : List Ty). set us s.slot s.was) (take_all s.depth (set ts x ty) (omega arith))
    ∙ ap (λ (n : ℕ). set (set ts x ty) n s.was) i
    ∙ set-set ts x ty s.was
    ∙ ap (set ts x) w
    ∙ set-get_or ts x number

-- what is bound in the block is no part of it
pub back_kept : (ts vs zs : List Ty) (s : Saved) → s.depth ≡ length vs → back vs s ≡ ts → take (length vs) zs ≡ vs → back zs s ≡ ts
back_kept ts vs zs s d b h =
    let e : take s.depth zs ≡ take s.depth vs = ap (λ (n : ℕ). take n zs) d ∙ h ∙ sym (take_all s.depth vs (omega arith)) in
    ap (λ (us : List Ty). set us s.slot s.was) e ∙ b

pub back_length : (ts : List Ty) (s : Saved) → s.depth ≤ length ts → length (back ts s) ≡ s.depth
back_length ts s h = length-set (take s.depth ts) s.slot s.was ∙ length-take-le s.depth ts h

-- and it comes back once more
pub back_again : (ts : List Ty) (s : Saved) → s.depth ≤ length ts → back (back ts s) s ≡ back ts s
back_again ts s h =
    ap (λ (us : List Ty). set us s.slot s.was) (take_all s.depth (back ts s) (omega (arith, back_length ts s h)))
    ∙ set-set (take s.depth ts) s.slot s.was s.was

-- a list that is the same twice over
pub same_then : (r s t : InScope) → SameList r s → SameList s t → SameList r t
same_then r s t a b = record { list = b.list ∙ a.list; slice = b.slice ∙ a.slice }
