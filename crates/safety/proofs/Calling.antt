-- Call, fork, again and return: each keeps what is kept, and is never stuck.
use Rattle.std.proofs.Common.{◌≡◌, ℕ, suc, ◌-◌, ◌<◌, ◌≤◌, true, eqb, ltb, List, [], ◌∷◌, ◌++◌, length, get_or, take, drop, set, Some, None, sym, refl, ap, ◌∙◌, subst, inl, inr, arith}
use Rattle.std.proofs.lemmas.List.{length-set, length_push, length-take-le, get_or-take, get_or_past, get_or_push, get_or-set_same, get_or-set_other}
use Rattle.std.proofs.lemmas.Bool.{eqb-true, ltb-true, and_parts, and_from, cond_both, cases_lt}
use Rattle.table.specs.declared.types.Ty.{Ty}
use Rattle.table.specs.Program.{Program}
use Rattle.table.specs.Records.{Op, Call, Fork, Return, Again}
use Rattle.rules.specs.Rules.{first, callee, slot, flows, premises, below, distinct, flow_to}
use Rattle.rules.specs.Scopes.{shape}
use Rattle.rules.specs.Formed.{HoldsBytes}
use Rattle.rules.specs.Laws.{Holds}
use Rattle.rules.proofs.Laws.{holds_all}
use Rattle.memory.specs.Model.{Store}
use Rattle.machine.specs.declared.threads.Slot.{Slot}
use Rattle.machine.specs.Values.{all_given, all_suit, leaving, passing}
use Rattle.machine.specs.declared.threads.Frame.{Frame}
use Rattle.machine.specs.World.{no_frame, op_at}
use Rattle.machine.specs.Ways.{value, way, is_call, call_slot, opened, returned, waiting}
use Rattle.machine.specs.Steps.{Does, taking}
use Rattle.safety.specs.Threads.{frame_at}
use Rattle.safety.specs.Typed.{AllGiven, t_call, t_return, t_end, t_again}
use Rattle.safety.specs.Checked.{core, structs_of, Notes, current, stacks, entered, scopes, Fine, Leads}
use Rattle.safety.proofs.Images.{push_off, mem}
use Rattle.safety.proofs.Typed.{typed_keeps}
use Rattle.safety.proofs.Passing.{pairs, rest_of, leaving_is, leaving_length, passing_is, passing_length, param_scope_is, entered_length, lacks_not, falls_refl, at_set, others_set, at_fork, at_forked, others_fork}
use Rattle.safety.proofs.Chains.{set_all, push_all, Placed, Waits, op_there, Chain, chain_at, chain_waits, chain_moved, chain_push, chain_take}
use Rattle.safety.proofs.Meaning.{never, flow_core}
use Rattle.safety.proofs.Ground.{in_threads, stacks_length, current_length, saved_at}
use Rattle.safety.proofs.Tells.{suits_flow, fits_suits}
use Rattle.safety.proofs.Poised.{Poised, Good, Operand, act, base, ck, goes, is_given, late, operand, passes, placed, slot_low, some_frame}

module _ (X : Poised) where
  abbrev p : Program
  p = X.program

  abbrev A : Notes
  A = X.notes

  abbrev Ms : List (List Frame)
  Ms = X.threads

  abbrev m : Store
  m = X.memory

  abbrev i : ℕ
  i = X.number

  abbrev fs : List Frame
  fs = get_or Ms i []

  abbrev J : ℕ
  J = length (get_or Ms i []) - 1

  abbrev F : Frame
  F = frame_at Ms i (length (get_or Ms i []) - 1)

  abbrev sc : List (Ty × List Ty)
  sc = A F.function F.index

  abbrev ts : List Ty
  ts = current (A F.function F.index)

  -- the arguments of a call, a fork and again
  pub args_fine : (xs : List ℕ) (ps : List Ty) → below (length ts) (take (length ps) xs) ≡ true → distinct (take (length ps) xs) ≡ true → flow_to ts (take (length ps) xs) ps ≡ true
      → (all_given F.slots xs ps ≡ true) × (all_suit F.slots xs ps ≡ true) × AllGiven (scopes A F.function F.index) (pairs xs ps)
  args_fine xs [] h d f = (refl, refl, tt)
  args_fine [] (t ∷ ps) h d f = (refl, refl, tt)
  args_fine (x ∷ xs) (t ∷ ps) h d f =
      let a = and_parts _ _ h in
      let b = and_parts _ _ d in
      let c = and_parts _ _ f in
      let r = args_fine xs ps a.1 b.1 c.1 in
      let u = operand X x a.0 in (
        and_from _ _ (is_given X x u) r.0,
        and_from _ _ (suits_flow (slot ts x) t (value p m fs x) c.0 (fits_suits (mem m) (value p m fs x) (slot ts x) u.fits)) r.1,
        (record { typed = core (slot ts x); saved = saved_at sc x; is = u.at.types; flows = flow_core (slot ts x) t c.0 }, lacks_not x xs ps b.0, r.2),
      )

  pub hi : i < length Ms
  hi = in_threads Ms i (some_frame X)

  -- a frame at the start of a function
  pub opens : (n : ℕ) (args : List ℕ) → n < length p.functions → Placed p (opened p m fs n args)
  opens n args h = record {
    there = h;
    index = (ck X).begins n h;
    slots = passing_length F.slots args (callee p n).params 16
        (let a = ((ck X).fine n 0 h ((ck X).begins n h)).few in let b : length (A n 0) ≡ length (entered (callee p n).params) = ap length ((ck X).params n h) in let c = entered_length (callee p n).params in omega arith);
  }

  pub scope_is : (n : ℕ) (args : List ℕ) → n < length p.functions → length (callee p n).params ≤ length args → scopes A n 0 ≡ Rattle.safety.specs.Calls.param_scope (pairs args (callee p n).params)
  scope_is n args h e = ap stacks ((ck X).params n h) ∙ param_scope_is args (callee p n).params e

  pub few_enough : (n : ℕ) (args : List ℕ) (k : ℕ) → length args ≡ k → 4 ≤ k → length (callee p n).params ≤ length args
  few_enough n args k e h = let a = (ck X).brief n in omega arith

  -- the caller, as it is left
  module _ (n : ℕ) (args : List ℕ) (index : ℕ) where
    abbrev caller : Frame
    caller = record { function = F.function; index = index; slots = leaving F.slots args (callee p n).params }

    abbrev callers : List Frame
    callers = set (get_or Ms i []) J (record { function = F.function; index = index; slots = leaving F.slots args (callee p n).params })

    callers_length : length callers ≡ suc J
    callers_length = let a = length-set (get_or Ms i []) J caller in omega arith

    callers_chain : index < length (callee p F.function).records → Chain p callers
    callers_chain l = chain_moved p (get_or Ms i []) J caller ((base X).chains i) (omega arith) refl (record { there = (placed X).there; index = l; slots = leaving_length F.slots args (callee p n).params ∙ (placed X).slots })

    caller_at : get_or callers J no_frame ≡ record { function = F.function; index = index; slots = Rattle.safety.specs.Calls.spend_vals F.slots (pairs args (callee p n).params) }
    caller_at = get_or-set_same (get_or Ms i []) J caller no_frame (omega arith) ∙ ap (λ (v : List Slot). record { function = F.function; index = index; slots = v }) (leaving_is F.slots args (callee p n).params)

  pub past : (frame_at Ms i (suc J)).slots ≡ []
  past = ap (λ (G : Frame). G.slots) (get_or_past (get_or Ms i []) (suc J) no_frame (omega arith))

  pub opened_is : (n : ℕ) (args : List ℕ) → opened p m fs n args ≡ record { function = n; index = 0; slots = Rattle.safety.specs.Calls.given_vals F.slots (pairs args (callee p n).params) (rest_of args (callee p n).params 16) }
  opened_is n args = ap (λ (v : List Slot). record { function = n; index = 0; slots = v }) (passing_is F.slots args (callee p n).params 16)

  pub call_good : (z n : ℕ) (args : List ℕ) (threads room : ℕ) → op_at p F ≡ Some (Call z n args) → Holds (premises p (callee p F.function) ts (Call z n args)) → HoldsBytes (Call z n args) → Good X (taking p m fs threads room (Some (Call z n args)))
  call_good z n args threads room o h en =
      passes X (way p m fs (Call z n args)).asks _ (and_from _ _ (slot_low X z h.0) af.0, (af.1, (there.0, tt)))
      (late X 66 (ltb (length fs) 8) _ (omega arith) (
        record {
          sound = typed_keeps (structs_of p) (scopes A) Ms (mem m) i J (act X) (base X).sound M' (mem m)
              (t_call M' i (suc J) n F.index (pairs args ps) (rest_of args ps 16) (λ q. let k = q.1 in omega arith) past
              (at_set Ms i gs hi J ∙ push_off cs G no_frame J (λ e. let k = callers_length n args F.index in omega arith) ∙ caller_at n args F.index)
              (falls_refl (scopes A F.function F.index))
              (at_set Ms i gs hi (suc J) ∙ get_or_push cs G no_frame (suc J) (callers_length n args F.index) ∙ opened_is n args)
              (scope_is n args hn (few_enough n args 5 en (omega arith)))
              (λ a b na nb. others_set Ms i gs hi (λ c. ¬ (c ≡ J) × ¬ (c ≡ suc J))
              (λ c q. push_off cs G no_frame c (λ e. q.1 (e ∙ callers_length n args F.index)) ∙ get_or-set_other (get_or Ms i []) J c (caller n args F.index) no_frame q.0) a b (λ e. (λ q. na (e, q), λ q. nb (e, q))))
              af.2);
          chains = set_all (Chain p) Ms i gs [] (chain_push p cs J G (callers_chain n args F.index (placed X).index) (callers_length n args F.index)
              (record { slot = z; args = args; is = ap (op_at p) (get_or-set_same (get_or Ms i []) J (caller n args F.index) no_frame (omega arith)) ∙ o }) (opens n args hn)) (base X).chains;
          whole = (base X).whole;
        },
        λ _. let k = length_push cs G in omega arith,
      ))
    where
      ps : List Ty
      ps = (callee p n).params

      cs : List Frame
      cs = callers n args F.index

      G : Frame
      G = opened p m fs n args

      gs : List Frame
      gs = cs ++ (G ∷ [])

      M' : List (List Frame)
      M' = set Ms i gs

      dist : (below (length ts) (take (length ps) args) ≡ true) × (distinct (take (length ps) args) ≡ true)
      dist = and_parts _ _ h.1.0

      there : (ltb n (length p.functions) ≡ true) × (Rattle.table.specs.Records.zeros (drop (length ps) args) ≡ true)
      there = and_parts _ _ h.1.1.0

      hn : n < length p.functions
      hn = ltb-true n (length p.functions) there.0

      af : (all_given F.slots args ps ≡ true) × (all_suit F.slots args ps ≡ true) × AllGiven (scopes A F.function F.index) (pairs args ps)
      af = args_fine args ps dist.0 dist.1 h.1.1.1.0

  pub fork_good : (n : ℕ) (args : List ℕ) (threads room : ℕ) → Holds (premises p (callee p F.function) ts (Fork n args)) → Leads p A F.function F.index (Fork n args) (shape (Fork n args)) → HoldsBytes (Fork n args)
      → Good X (taking p m fs threads room (Some (Fork n args)))
  fork_good n args threads room h l en =
      passes X (way p m fs (Fork n args)).asks _ (af.0, (af.1, (there.0, tt)))
      (late X 67 (ltb threads 8) _ (omega arith) (
        record {
          sound = typed_keeps (structs_of p) (scopes A) Ms (mem m) i J (act X) (base X).sound M' (mem m)
              (t_call M' (length Ms) 0 n (suc F.index) (pairs args ps) (rest_of args ps 16) (λ q. let k = q.0 in let j = hi in omega arith)
              (ap (λ (g : List Frame). (get_or g 0 no_frame).slots) (get_or_past Ms (length Ms) [] (omega arith)))
              (at_fork Ms i cs hi G J ∙ caller_at n args (suc F.index)) l.1
              (at_forked Ms i cs hi G ∙ opened_is n args)
              (scope_is n args hn (few_enough n args 5 en (omega arith)))
              (λ a b na nb. others_fork Ms i cs hi G (λ c. ¬ (c ≡ J)) (λ c q. get_or-set_other (get_or Ms i []) J c (caller n args (suc F.index)) no_frame q) a b (λ e q. na (e, q)) nb)
              af.2);
          chains = push_all (Chain p) (set Ms i cs) (G ∷ []) [] (opens n args hn) (set_all (Chain p) Ms i cs [] (callers_chain n args (suc F.index) l.0) (base X).chains);
          whole = (base X).whole;
        },
        λ _. let k = callers_length n args (suc F.index) in omega arith,
      ))
    where
      ps : List Ty
      ps = (callee p n).params

      cs : List Frame
      cs = callers n args (suc F.index)

      G : Frame
      G = opened p m fs n args

      M' : List (List Frame)
      M' = set Ms i cs ++ ((G ∷ []) ∷ [])

      dist : (below (length ts) (take (length ps) args) ≡ true) × (distinct (take (length ps) args) ≡ true)
      dist = and_parts _ _ h.0

      there : (ltb n (length p.functions) ≡ true) × (Rattle.table.specs.Records.zeros (drop (length ps) args) ≡ true)
      there = and_parts _ _ h.1.0

      hn : n < length p.functions
      hn = ltb-true n (length p.functions) there.0

      af : (all_given F.slots args ps ≡ true) × (all_suit F.slots args ps ≡ true) × AllGiven (scopes A F.function F.index) (pairs args ps)
      af = args_fine args ps dist.0 dist.1 h.1.1.0

  pub again_good : (args : List ℕ) (threads room : ℕ) → Holds (premises p (callee p F.function) ts (Again args)) → HoldsBytes (Again args) → Good X (taking p m fs threads room (Some (Again args)))
  again_good args threads room h en =
      passes X (way p m fs (Again args)).asks _ (af.0, (af.1, tt))
      (goes X 0 (passing F.slots args ps 16) m (mem m) None
      (t_again M' i (suc J) (pairs args ps) (rest_of args ps 16) (λ q. let k = q.1 in omega arith) past
      (at_set Ms i gs hi J ∙ get_or-set_same (get_or Ms i []) J (opened p m fs F.function args) no_frame (omega arith) ∙ opened_is F.function args)
      (scope_is F.function args (placed X).there (few_enough F.function args 6 en (omega arith)))
      (λ a b n. others_set Ms i gs hi (λ c. ¬ (c ≡ J)) (λ c q. get_or-set_other (get_or Ms i []) J c (opened p m fs F.function args) no_frame q) a b (λ e q. n (e, q)))
      af.2)
      refl (base X).whole ((ck X).begins F.function (placed X).there) (opens F.function args (placed X).there).slots)
    where
      ps : List Ty
      ps = (callee p F.function).params

      gs : List Frame
      gs = set (get_or Ms i []) J (opened p m fs F.function args)

      M' : List (List Frame)
      M' = set Ms i gs

      dist : (below (length ts) (take (length ps) args) ≡ true) × (distinct (take (length ps) args) ≡ true)
      dist = and_parts _ _ h.0

      af : (all_given F.slots args ps ≡ true) × (all_suit F.slots args ps ≡ true) × AllGiven (scopes A F.function F.index) (pairs args ps)
      af = args_fine args ps dist.0 dist.1 h.1.1.0

  -- the frame that waits for this one
  module _ (two : 1 < length (get_or Ms i [])) where
    abbrev D : ℕ
    D = length (get_or Ms i []) - 2

    abbrev W : Frame
    W = frame_at Ms i (length (get_or Ms i []) - 2)

    WPlaced : Placed p W
    WPlaced = chain_at p (get_or Ms i []) ((base X).chains i) D (omega arith)

    WWaits : Waits p W F.function
    WWaits = let e : suc D ≡ J = omega arith in subst (λ (k : ℕ). Waits p W (get_or (get_or Ms i []) k no_frame).function) e (chain_waits p (get_or Ms i []) ((base X).chains i) D (omega arith))

    WFine : Fine p A W.function W.index
    WFine = (ck X).fine W.function W.index WPlaced.there WPlaced.index

    WOp : WFine.op ≡ Call WWaits.slot F.function WWaits.args
    WOp = let a = op_there p W WPlaced in let b = WFine.is in let c = WWaits.is in cc

    WHeld : Holds (premises p (callee p W.function) (current (A W.function W.index)) (Call WWaits.slot F.function WWaits.args))
    WHeld = holds_all (premises p (callee p W.function) (current (A W.function W.index)) (Call WWaits.slot F.function WWaits.args)) (subst (λ (o : Op). first (premises p (callee p W.function) (current (A W.function W.index)) o) ≡ None) WOp WFine.held)

    WLeads : Leads p A W.function W.index (Call WWaits.slot F.function WWaits.args) (shape (Call WWaits.slot F.function WWaits.args))
    WLeads = subst (λ (o : Op). Leads p A W.function W.index o (shape o)) WOp WFine.leads

    WSlot : (WWaits.slot ≡ length (scopes A W.function W.index)) × (ltb WWaits.slot 16 ≡ true)
    WSlot =
        let a = and_parts (eqb WWaits.slot (length (current (A W.function W.index)))) (ltb WWaits.slot 16) WHeld.0 in
        (eqb-true _ _ a.0 ∙ current_length (A W.function W.index) ∙ sym (stacks_length (A W.function W.index)), a.1)

    bound_at : call_slot (op_at p W) ≡ WWaits.slot
    bound_at = ap call_slot WWaits.is

    return_two : (x : ℕ) → Operand X x → flows (slot ts x) (callee p F.function).result ≡ true → Good X (Does (returned p m fs x (suc (suc (length (get_or Ms i []) - 2)))) None)
    return_two x u fl = (
      record {
        sound = typed_keeps (structs_of p) (scopes A) Ms (mem m) i J (act X) (base X).sound M' (mem m)
            (t_return M' i D x (suc W.index) (value p m fs x) (core (callee p F.function).result) (core (slot ts x)) (saved_at sc x) (λ q. let k = q.1 in omega arith)
            (let a = WSlot in let b = ltb-true _ _ a.1 in let c = WPlaced.slots in omega arith)
            u.at (flow_core (slot ts x) (callee p F.function).result fl)
            (at_set Ms i gs hi D ∙ get_or-set_same (take (suc D) (get_or Ms i [])) D W' no_frame (let k = len in omega arith) ∙ ap (λ (k : ℕ). record { function = W.function; index = suc W.index; slots = set W.slots k (value p m fs x) }) (bound_at ∙ WSlot.0))
            WLeads.1
            (ap (λ (G : Frame). G.slots) (at_set Ms i gs hi J ∙ get_or_past gs J no_frame (let k = len' in omega arith)))
            (λ a b na nb. others_set Ms i gs hi (λ c. ¬ (c ≡ D) × ¬ (c ≡ J)) (λ c q. get_or-set_other (take (suc D) (get_or Ms i [])) D c W' no_frame q.0 ∙ taken_at c q.0 q.1) a b (λ e. (λ q. na (e, q), λ q. nb (e, q)))));
        chains = set_all (Chain p) Ms i gs [] (chain_moved p (take (suc D) (get_or Ms i [])) D W' (chain_take p (get_or Ms i []) (suc D) ((base X).chains i)) len
            (ap (λ (G : Frame). G.function) (sym (get_or-take (suc D) (get_or Ms i []) D no_frame (omega arith))))
            (record { there = WPlaced.there; index = WLeads.0; slots = length-set W.slots (call_slot (op_at p W)) (value p m fs x) ∙ WPlaced.slots })) (base X).chains;
        whole = (base X).whole;
      },
      λ _. subst (λ (k : ℕ). 0 < k) (sym len') (omega arith),
    )
      where
        W' : Frame
        W' = record { function = W.function; index = suc W.index; slots = set W.slots (call_slot (op_at p W)) (value p m fs x) }

        gs : List Frame
        gs = set (take (suc D) (get_or Ms i [])) D W'

        M' : List (List Frame)
        M' = set Ms i gs

        len : length (take (suc D) (get_or Ms i [])) ≡ suc D
        len = length-take-le (suc D) (get_or Ms i []) (omega arith)

        len' : length gs ≡ suc D
        len' = length-set (take (suc D) (get_or Ms i [])) D W' ∙ len

        taken_at : (c : ℕ) → ¬ (c ≡ D) → ¬ (c ≡ J) → get_or (take (suc D) (get_or Ms i [])) c no_frame ≡ get_or (get_or Ms i []) c no_frame
        taken_at c nd nj = elim (cases_lt c (suc D)) [
          | inl l ↦ get_or-take (suc D) (get_or Ms i []) c no_frame l
          | inr l ↦ get_or_past (take (suc D) (get_or Ms i [])) c no_frame (let k = len in omega arith) ∙ sym (get_or_past (get_or Ms i []) c no_frame (omega arith))
        ]

  pub return_one : (x : ℕ) → length (get_or Ms i []) ≡ 1 → Good X (Does (returned p m fs x 1) None)
  return_one x one = (
    record {
      sound = typed_keeps (structs_of p) (scopes A) Ms (mem m) i J (act X) (base X).sound (set Ms i []) (mem m)
          (t_end (set Ms i []) (ap (λ (G : Frame). G.slots) (at_set Ms i [] hi J))
          (λ a b n. others_set Ms i [] hi (λ c. ¬ (c ≡ J)) (λ c q. sym (get_or_past (get_or Ms i []) c no_frame (omega arith))) a b (λ e q. n (e, q))));
      chains = set_all (Chain p) Ms i [] [] tt (base X).chains;
      whole = (base X).whole;
    },
    λ e. never e,
  )

  pub return_good : (x threads room : ℕ) → Holds (premises p (callee p F.function) ts (Return x)) → Good X (taking p m fs threads room (Some (Return x)))
  return_good x threads room h =
      let u = operand X x h.0 in
      passes X (way p m fs (Return x)).asks _ (
        cond_both (ltb 1 (length fs)) (is_call (op_at p (waiting fs))) true (λ b. b ≡ true) (λ q. ap is_call (WWaits (ltb-true 1 (length fs) q)).is) (λ _. refl),
        (
          and_from _ _ (is_given X x u) (cond_both (ltb 1 (length fs)) (ltb (call_slot (op_at p (waiting fs))) 16) true (λ b. b ≡ true)
              (λ q. ap (λ (k : ℕ). ltb k 16) (bound_at (ltb-true 1 (length fs) q)) ∙ (WSlot (ltb-true 1 (length fs) q)).1) (λ _. refl)),
          (suits_flow (slot ts x) (callee p F.function).result (value p m fs x) h.1.0 (fits_suits (mem m) (value p m fs x) (slot ts x) u.fits), tt),
        ),
      )
      (elim (cases_lt 1 (length fs)) [
        | inl q ↦ (let e : suc (suc (length fs - 2)) ≡ length fs = omega arith in subst (λ (k : ℕ). Good X (Does (returned p m fs x k) None)) e (return_two q x u h.1.0))
        | inr q ↦ (let e : 1 ≡ length fs = omega arith in subst (λ (k : ℕ). Good X (Does (returned p m fs x k) None)) e (return_one x (sym e)))
      ])
