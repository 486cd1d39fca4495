-- At most one slot owns an object, as the machine counts them; and threads of which no two touch one object do not clash.
use Rattle.std.proofs.Common.{◌≡◌, ℕ, zero, suc, ◌+◌, ◌<◌, ◌≤◌, Bool, true, false, cond, ◌&&◌, ◌||◌, eqb, ◌⊎◌, List, [], ◌∷◌, map, get_or, Some, None, Option, refl, ap, ◌∙◌, inl, inr, arith}
use Rattle.std.proofs.lemmas.Bool.{eqb-true, and_parts, cases_lt, cond_both}
use Rattle.table.specs.declared.types.Kind.{Kind}
use Rattle.table.specs.declared.types.Kind.TheVariants.{Number, Alias, Owned, Pristine}
use Rattle.table.specs.declared.types.Ty.{Ty}
use Rattle.table.specs.Program.{Program}
use Rattle.table.specs.Types.{is_owned, is_pristine}
use Rattle.memory.specs.Model.{Store}
use Rattle.machine.specs.declared.threads.Slot.{Slot}
use Rattle.machine.specs.declared.threads.Slot.TheVariants as V
use Rattle.machine.specs.declared.threads.Frame.{Frame}
use Rattle.machine.specs.World.{no_frame, Task, no_task}
use Rattle.machine.specs.declared.clashing.Clash.{Clash}
use Rattle.machine.specs.Clashes.{touch, meets, partner, or_else, clash_from}
use Rattle.safety.specs.Model as C
use Rattle.safety.specs.Threads.{entry_at, flat}
use Rattle.safety.specs.Owners.{owns, slots_owning, frames_owning, tasks_owning}
use Rattle.safety.specs.Checked.{by_kind, core, Notes, current, stacks, types, scopes}

abbrev pub frames_of : List Task → List (List Frame)
frames_of [] = []
frames_of (t ∷ ts) = t.frames ∷ frames_of ts

-- two counts of at most one, not both of one
one_of : (a b : ℕ) → a ≤ 1 → b ≤ 1 → (0 < a → 0 < b → ⊥) → a + b ≤ 1
one_of a b h k n = elim (cases_lt 0 a) [
  | inr l ↦ omega arith
  | inl l ↦ elim (cases_lt 0 b) [ inr j ↦ omega arith | inl j ↦ absurd (n l j) ]
]

some_of : (a b : ℕ) → 0 < a + b → (0 < a) ⊎ (0 < b)
some_of zero b h = inr (omega arith)
some_of (suc a) b h = inl (omega arith)

owns_kinds : (k : Kind) (s w q o : ℕ) → 0 < cond ((is_owned k || is_pristine k) && eqb q o) 1 0 → C.own_ty (by_kind k s w) (suc q) ≡ suc o
owns_kinds Number s w q o h = absurd (omega arith)
owns_kinds Alias s w q o h = absurd (omega arith)
owns_kinds Owned s w q o h = go (eqb q o) refl h
  where
    go : (b : Bool) → eqb q o ≡ b → 0 < cond b 1 0 → suc q ≡ suc o
    go true e l = ap suc (eqb-true q o e)
    go false e l = absurd (omega arith)
owns_kinds Pristine s w q o h = go (eqb q o) refl h
  where
    go : (b : Bool) → eqb q o ≡ b → 0 < cond b 1 0 → suc q ≡ suc o
    go true e l = ap suc (eqb-true q o e)
    go false e l = absurd (omega arith)

owns_one : (t : Ty) (v : Slot) (o : ℕ) → owns t v o ≤ 1
owns_one t V.Empty o = omega arith
owns_one t V.Null o = omega arith
owns_one t (V.Number n) o = omega arith
owns_one t (V.Reference q) o = cond_both ((is_owned t.kind || is_pristine t.kind) && eqb q o) 1 0 (λ n. n ≤ 1) (λ _. omega arith) (λ _. omega arith)

owns_some : (t : Ty) (us : List C.Claim) (v : Slot) (o : ℕ) → 0 < owns t v o → C.own_e (C.here v (core t) us) ≡ suc o
owns_some t us V.Empty o h = absurd (omega arith)
owns_some t us V.Null o h = absurd (omega arith)
owns_some t us (V.Number n) o h = absurd (omega arith)
owns_some t us (V.Reference q) o h = owns_kinds t.kind t.strukt t.withheld q o h

module _ (o : ℕ) where
  abbrev Holds : List Slot → List (Ty × List Ty) → ℕ → Type 0
  Holds vs sc k = C.own_e (entry_at vs (stacks sc) k) ≡ suc o

  slots_some : (sc : List (Ty × List Ty)) (vs : List Slot) → 0 < slots_owning (current sc) vs o → (k : ℕ) × Holds vs sc k
  slots_some [] vs h = absurd (omega arith)
  slots_some (a ∷ sc) [] h = absurd (omega arith)
  slots_some (a ∷ sc) (v ∷ vs) h = elim (some_of (owns a.0 v o) (slots_owning (current sc) vs o) h) [
    | inl l ↦ (0, owns_some a.0 (map core a.1) v o l)
    | inr l ↦ (let r = slots_some sc vs l in (suc r.0, r.1))
  ]

  slots_one : (sc : List (Ty × List Ty)) (vs : List Slot) → ((k l : ℕ) → Holds vs sc k → Holds vs sc l → k ≡ l) → slots_owning (current sc) vs o ≤ 1
  slots_one [] vs u = omega arith
  slots_one (a ∷ sc) [] u = omega arith
  slots_one (a ∷ sc) (v ∷ vs) u = one_of (owns a.0 v o) (slots_owning (current sc) vs o) (owns_one a.0 v o)
      (slots_one sc vs (λ k l h j. let e = u (suc k) (suc l) h j in omega arith))
      (λ h j. let r = slots_some sc vs j in let e = u 0 (suc r.0) (owns_some a.0 (map core a.1) v o h) r.1 in omega arith)

  module _ (A : Notes) where
    abbrev HoldsF : List Frame → ℕ → ℕ → Type 0
    HoldsF fs j k = C.own_e (entry_at (get_or fs j no_frame).slots (scopes A (get_or fs j no_frame).function (get_or fs j no_frame).index) k) ≡ suc o

    frames_some : (fs : List Frame) → 0 < frames_owning (types A) fs o → (j k : ℕ) × HoldsF fs j k
    frames_some [] h = absurd (omega arith)
    frames_some (F ∷ fs) h = elim (some_of (slots_owning (types A F.function F.index) F.slots o) (frames_owning (types A) fs o) h) [
      | inl l ↦ (let r = slots_some (A F.function F.index) F.slots l in (0, r.0, r.1))
      | inr l ↦ (let r = frames_some fs l in (suc r.0, r.1, r.2))
    ]

    frames_one : (fs : List Frame) → ((j k j' k' : ℕ) → HoldsF fs j k → HoldsF fs j' k' → (j ≡ j') × (k ≡ k')) → frames_owning (types A) fs o ≤ 1
    frames_one [] u = omega arith
    frames_one (F ∷ fs) u = one_of (slots_owning (types A F.function F.index) F.slots o) (frames_owning (types A) fs o)
        (slots_one (A F.function F.index) F.slots (λ k l h j. (u 0 k 0 l h j).1))
        (frames_one fs (λ j k j' k' h g. let e = u (suc j) k (suc j') k' h g in (let a = e.0 in omega arith, e.1)))
        (λ h g. let r = slots_some (A F.function F.index) F.slots h in let s = frames_some fs g in let e = (u 0 r.0 (suc s.0) s.1 r.1 s.2).0 in omega arith)

    abbrev pub HoldsT : List Task → ℕ → ℕ → ℕ → Type 0
    HoldsT ts i j k = C.own_e (flat (scopes A) (frames_of ts) (C.spot i j k)) ≡ suc o

    tasks_some : (ts : List Task) → 0 < tasks_owning (types A) ts o → (i j k : ℕ) × HoldsT ts i j k
    tasks_some [] h = absurd (omega arith)
    tasks_some (t ∷ ts) h = elim (some_of (frames_owning (types A) t.frames o) (tasks_owning (types A) ts o) h) [
      | inl l ↦ (let r = frames_some t.frames l in (0, r.0, r.1, r.2))
      | inr l ↦ (let r = tasks_some ts l in (suc r.0, r.1, r.2, r.3))
    ]

    pub tasks_one : (ts : List Task) → ((i j k i' j' k' : ℕ) → HoldsT ts i j k → HoldsT ts i' j' k' → (i ≡ i') × (j ≡ j') × (k ≡ k')) → tasks_owning (types A) ts o ≤ 1
    tasks_one [] u = omega arith
    tasks_one (t ∷ ts) u = one_of (frames_owning (types A) t.frames o) (tasks_owning (types A) ts o)
        (frames_one t.frames (λ j k j' k' h g. let e = u 0 j k 0 j' k' h g in (e.1, e.2)))
        (tasks_one ts (λ i j k i' j' k' h g. let e = u (suc i) j k (suc i') j' k' h g in (let a = e.0 in omega arith, e.1, e.2)))
        (λ h g. let r = frames_some t.frames h in let s = tasks_some ts g in let e = (u 0 r.0 r.1 (suc s.0) s.1 s.2 r.2 s.3).0 in omega arith)

-- no pair of threads
module _ (p : Program) (m : Store) where
  meets_none : (k l : ℕ) (t : ℕ × ℕ) (w : Option (ℕ × ℕ)) (rest : Option Clash) → ((u : ℕ × ℕ) → w ≡ Some u → t.0 ≡ u.0 → ⊥) → rest ≡ None → meets k l t w rest ≡ None
  meets_none k l t None rest h e = e
  meets_none k l t (Some u) rest h e = cond_both (eqb t.0 u.0 && eqb t.1 u.1) _ rest (λ c. c ≡ None) (λ q. absurd (h u refl (eqb-true _ _ (and_parts _ _ q).0))) (λ _. e)

  partner_none : (k l : ℕ) (t : ℕ × ℕ) (us : List Task) → ((b : ℕ) (u : ℕ × ℕ) → touch p m (get_or us b no_task) ≡ Some u → t.0 ≡ u.0 → ⊥) → partner p m k (Some t) l us ≡ None
  partner_none k l t [] h = refl
  partner_none k l t (u ∷ us) h = meets_none k l t (touch p m u) (partner p m k (Some t) (suc l) us) (h 0) (partner_none k (suc l) t us (λ b. h (suc b)))

  first_none : (k : ℕ) (w : Option (ℕ × ℕ)) (l : ℕ) (us : List Task) → ((t : ℕ × ℕ) → w ≡ Some t → (b : ℕ) (u : ℕ × ℕ) → touch p m (get_or us b no_task) ≡ Some u → t.0 ≡ u.0 → ⊥) → partner p m k w l us ≡ None
  first_none k None l us h = refl
  first_none k (Some t) l us h = partner_none k l t us (h t refl)

  pub clash_none : (k : ℕ) (ts : List Task) → ((a b : ℕ) (t u : ℕ × ℕ) → touch p m (get_or ts a no_task) ≡ Some t → touch p m (get_or ts b no_task) ≡ Some u → t.0 ≡ u.0 → a ≡ b) → clash_from p m k ts ≡ None
  clash_none k [] h = refl
  clash_none k (t ∷ ts) h =
      ap (λ (c : Option Clash). or_else c (clash_from p m (suc k) ts)) (first_none k (touch p m t) (suc k) ts (λ w e b u f q. let z = h 0 (suc b) w u e f q in omega arith))
      ∙ clash_none (suc k) ts (λ a b w u e f q. let z = h (suc a) (suc b) w u e f q in omega arith)
