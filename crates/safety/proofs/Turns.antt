-- Each record of a checked program, taken by the newest frame of a thread, keeps what is kept from step to step, and is never stuck.
use Rattle.std.proofs.Common.{◌≡◌, ℕ, suc, ◌-◌, true, ◌||◌, List, [], length, get_or, Some, Option, sym, refl, ap, ◌∙◌, subst}
use Rattle.std.proofs.lemmas.Bool.{and_parts, not-true, lt-ltb, cond-true}
use Rattle.table.specs.declared.types.Ty.{Ty}
use Rattle.table.specs.declared.types.Field.{Field}
use Rattle.table.specs.Program.{Program}
use Rattle.table.specs.Types.{is_alias, is_owned, is_pristine, is_var}
use Rattle.table.specs.declared.records.Test.TheVariants.{Nil, Same, Equal, Less, Link, Unlink, Swap, Try, Fix, Stable}
use Rattle.table.specs.Records.{Op, New, Null, Int, Share, Own, Get, Take, Set, Add, Call, Fork, Return, Again, Join, Emit, Ask}
use Rattle.rules.specs.Rules.{callee, slot, premises}
use Rattle.rules.specs.Scopes.{shape}
use Rattle.rules.specs.Formed.{HoldsBytes}
use Rattle.rules.specs.Laws.{Holds}
use Rattle.rules.proofs.Laws.{holds_all}
use Rattle.memory.specs.Model.{Store}
use Rattle.machine.specs.declared.threads.Slot.TheVariants as V
use Rattle.machine.specs.declared.threads.Frame.{Frame}
use Rattle.machine.specs.World.{op_at}
use Rattle.machine.specs.Ways.{standing, value}
use Rattle.machine.specs.Steps.{taking}
use Rattle.machine.specs.Reading.{field}
use Rattle.machine.specs.Clashes.{touch_by}
use Rattle.safety.specs.Model as C
use Rattle.safety.specs.Threads.{frame_at, flat}
use Rattle.safety.specs.Checked.{core, structs_of, Notes, current, scopes, Leads}
use Rattle.safety.proofs.Images.{mem}
use Rattle.safety.proofs.Typed.{in_scope}
use Rattle.safety.proofs.Chains.{op_there}
use Rattle.safety.proofs.Ground.{saved_at, field_is}
use Rattle.safety.proofs.Tells.{owned_by, held_from, alias_not, nothing, touched_ref}
use Rattle.safety.proofs.Poised.{Poised, Fd, Good, Kd, Operand, Sd, Wd, act, base, fine, holds_as, operand, placed, some_frame, struct_at}
use Rattle.safety.proofs.Bindings.{add_good, emit_good, get_good, int_good, join_good, new_good, null_good, own_good, set_good, share_good, take_good}
use Rattle.safety.proofs.Testing.{equal_good, fix_good, less_good, link_good, nil_good, same_good, stable_good, swap_good, try_good, unlink_good}
use Rattle.safety.proofs.Calling.{again_good, call_good, fork_good, return_good}

module _ (X : Poised) where
  abbrev p : Program
  p = X.program

  abbrev A : Notes
  A = X.notes

  abbrev Ms : List (List Frame)
  Ms = X.threads

  abbrev m : Store
  m = X.memory

  abbrev i : ℕ
  i = X.number

  abbrev fs : List Frame
  fs = get_or Ms i []

  abbrev J : ℕ
  J = length (get_or Ms i []) - 1

  abbrev F : Frame
  F = frame_at Ms i (length (get_or Ms i []) - 1)

  abbrev sc : List (Ty × List Ty)
  sc = A F.function F.index

  abbrev ts : List Ty
  ts = current (A F.function F.index)

  -- every record
  pub turn : (op : Op) (threads room : ℕ) → op_at p F ≡ Some op → Holds (premises p (callee p F.function) ts op) → Leads p A F.function F.index op (shape op) → HoldsBytes op → Good X (taking p m fs threads room (Some op))
  turn (New z s) threads room o h l e = new_good X z s threads room h l
  turn (Null z s) threads room o h l e = null_good X z s threads room h l
  turn (Int z n) threads room o h l e = int_good X z n threads room h l
  turn (Share z x) threads room o h l e = share_good X z x threads room h l
  turn (Own z x) threads room o h l e = own_good X z x threads room h l
  turn (Get z x f) threads room o h l e = get_good X z x f threads room h l
  turn (Take z x f) threads room o h l e = take_good X z x f threads room h l
  turn (Set z x f y) threads room o h l e = set_good X z x f y threads room h l
  turn (Add z x y) threads room o h l e = add_good X z x y threads room h l
  turn (Call z n args) threads room o h l e = call_good X z n args threads room o h e
  turn (Fork n args) threads room o h l e = fork_good X n args threads room h l e
  turn (Return x) threads room o h l e = return_good X x threads room h
  turn (Again args) threads room o h l e = again_good X args threads room h e
  turn (Join n) threads room o h l e = join_good X n threads room l
  turn (Emit x) threads room o h l e = emit_good X x threads room h l
  turn (Ask (Nil x) a b) threads room o h l e = nil_good X x a b threads room h l
  turn (Ask (Same x y) a b) threads room o h l e = same_good X x y a b threads room h l
  turn (Ask (Equal x y) a b) threads room o h l e = equal_good X x y a b threads room h l
  turn (Ask (Less x y) a b) threads room o h l e = less_good X x y a b threads room h l
  turn (Ask (Link x f y g) a b) threads room o h l e = link_good X x f y g a b threads room h l
  turn (Ask (Unlink x f y g) a b) threads room o h l e = unlink_good X x f y g a b threads room h l
  turn (Ask (Swap x f y w) a b) threads room o h l e = swap_good X x f y w a b threads room h l
  turn (Ask (Try x f y) a b) threads room o h l e = try_good X x f y a b threads room h l
  turn (Ask (Fix x f y) a b) threads room o h l e = fix_good X x f y a b threads room h l
  turn (Ask (Stable x f) a b) threads room o h l e = stable_good X x f a b threads room h l

  pub op_is : op_at p F ≡ Some (fine X).op
  op_is = op_there p F (placed X) ∙ (fine X).is

  stands : standing p fs ≡ Some (fine X).op
  stands = cond-true _ _ _ (lt-ltb 0 (length fs) (some_frame X)) ∙ op_is

  -- a step of the thread
  pub steps : (threads room : ℕ) → Good X (taking p m fs threads room (standing p fs))
  steps threads room = subst (λ (o : Option Op). Good X (taking p m fs threads room o)) (sym stands)
      (turn (fine X).op threads room op_is (holds_all (premises p (callee p F.function) ts (fine X).op) (fine X).held) (fine X).leads (fine X).bytes)

  -- a thread that touches a var field owns its object
  pub owner : (x o : ℕ) → Operand X x → value p m fs x ≡ V.Reference o → (is_owned (Kd X x) || is_pristine (Kd X x)) ≡ true → C.own_e (flat (scopes A) Ms (C.spot i J x)) ≡ suc o
  owner x o u e h = ap C.own_e (in_scope (structs_of p) (scopes A) Ms (mem m) i J (act X) (base X).sound x (V.Reference o) (core (slot ts x)) (saved_at sc x) (holds_as X x u (V.Reference o) e (core (slot ts x)) refl))
      ∙ owned_by (Kd X x) (Sd X x) (Wd X x) (suc o) h

  pub var_field : (x f o : ℕ) → Operand X x → value p m fs x ≡ V.Reference o → is_var (field p m (V.Reference o) f).mode ≡ true → is_var (Fd X x f).mode ≡ true
  var_field x f o u e h = ap (λ (d : Field). is_var d.mode) (sym (field_is p m (V.Reference o) o refl (Sd X x) f (struct_at X x u o e).1)) ∙ h

  pub touches_own : (op : Op) → Holds (premises p (callee p F.function) ts op) → (t : ℕ × ℕ) → touch_by p m fs (Some op) ≡ Some t → (x : ℕ) × (C.own_e (flat (scopes A) Ms (C.spot i J x)) ≡ suc t.0)
  touches_own (Get z x f) h t e =
      let a = touched_ref p m (value p m fs x) f t e in
      let u = operand X x h.1.0 in
      let v = var_field x f t.0 u a.0 a.1 in
      (x, owner x t.0 u a.0 (held_from (Kd X x) (not-true _ h.1.1.0) (alias_not (is_var (Fd X x f).mode) (is_alias (Kd X x)) (not-true _ h.1.1.1.1.0) v)))
  touches_own (Take z x f) h t e = let a = touched_ref p m (value p m fs x) f t e in (x, owner x t.0 (operand X x h.1.0) a.0 h.1.1.0)
  touches_own (Set z x f y) h t e = let a = touched_ref p m (value p m fs x) f t e in (x, owner x t.0 (operand X x (and_parts _ _ (and_parts _ _ h.1.0).0).0) a.0 h.1.1.0)
  touches_own (New z s) h t e = nothing e
  touches_own (Null z s) h t e = nothing e
  touches_own (Int z n) h t e = nothing e
  touches_own (Share z x) h t e = nothing e
  touches_own (Own z x) h t e = nothing e
  touches_own (Add z x y) h t e = nothing e
  touches_own (Call z n args) h t e = nothing e
  touches_own (Fork n args) h t e = nothing e
  touches_own (Return x) h t e = nothing e
  touches_own (Again args) h t e = nothing e
  touches_own (Join n) h t e = nothing e
  touches_own (Emit x) h t e = nothing e
  touches_own (Ask q a b) h t e = nothing e

  pub touch_owns : (t : ℕ × ℕ) → touch_by p m fs (standing p fs) ≡ Some t → (x : ℕ) × (C.own_e (flat (scopes A) Ms (C.spot i J x)) ≡ suc t.0)
  touch_owns t e = touches_own (fine X).op (holds_all (premises p (callee p F.function) ts (fine X).op) (fine X).held) t (ap (touch_by p m fs) (sym stands) ∙ e)
