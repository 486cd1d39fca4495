-- What a value, a saved type and a cell keep while the heap goes on.
use Rattle.std.proofs.Common.{◌≡◌, ℕ, suc, ◌<◌, ◌≤◌, true, false, ◌⊎◌, List, [], ◌∷◌, sym, refl, ap, ◌∙◌, inl, inr, arith}
use Rattle.table.specs.declared.types.Mode.TheVariants.{Once}
use Rattle.machine.specs.declared.threads.Slot.{Slot}
use Rattle.machine.specs.declared.threads.Slot.TheVariants.{Empty, Null, Number, Reference}
use Rattle.safety.specs.Model.{Right, alias, owned, pristine, Claim, num, pt, Structs, Cell, Heap, Entry, out, here, name_of, rank, own_ty, pris_ty, name_e, own_e, pris_e, name_c, own_c, struct_of, mode_at, field_at, Stable, Dead, Part, Conf, Saved, EntryOK, CellOK}

pub rank_own : (u t : Claim) (n p : ℕ) → rank u ≤ rank t → own_ty u n ≡ suc p → own_ty t n ≡ suc p
rank_own num t n p h e = omega arith
rank_own (pt alias s w) t n p h e = omega arith
rank_own (pt owned s w) num n p h e = omega arith
rank_own (pt owned s w) (pt alias s' w') n p h e = omega arith
rank_own (pt owned s w) (pt owned s' w') n p h e = e
rank_own (pt owned s w) (pt pristine s' w') n p h e = e
rank_own (pt pristine s w) num n p h e = omega arith
rank_own (pt pristine s w) (pt alias s' w') n p h e = omega arith
rank_own (pt pristine s w) (pt owned s' w') n p h e = e
rank_own (pt pristine s w) (pt pristine s' w') n p h e = e

pub rank_pris : (u t : Claim) (n p : ℕ) → rank u ≤ rank t → pris_ty u n ≡ suc p → pris_ty t n ≡ suc p
rank_pris num t n p h e = omega arith
rank_pris (pt alias s w) t n p h e = omega arith
rank_pris (pt owned s w) t n p h e = omega arith
rank_pris (pt pristine s w) num n p h e = omega arith
rank_pris (pt pristine s w) (pt alias s' w') n p h e = omega arith
rank_pris (pt pristine s w) (pt owned s' w') n p h e = omega arith
rank_pris (pt pristine s w) (pt pristine s' w') n p h e = e

module _ (St : Structs) where
  pub record Grows (H H' : Heap) : Type 0 where
    pub more : H.size ≤ H'.size
    pub kinds : (o : ℕ) → o < H.size → H'.kind o ≡ H.kind o
    pub stays : (o g : ℕ) → o < H.size → Stable St H o g → Stable St H' o g

  -- what is asked for each object that a place names, owns, or holds pristine
  abbrev pub KeepA : Heap → Heap → ℕ → Type 0
  KeepA H H' n = (o : ℕ) → n ≡ suc o → (g : ℕ) → Dead St H' o g → Dead St H o g ⊎ Stable St H' o g

  abbrev pub KeepO : Heap → Heap → ℕ → Type 0
  KeepO H H' n = (o : ℕ) → n ≡ suc o → (g : ℕ) → Dead St H' o g → Dead St H o g

  abbrev pub KeepP : Heap → Heap → ℕ → Type 0
  KeepP H H' n = (o : ℕ) → n ≡ suc o → (g : ℕ) → (H.mem o g).mark ≡ false → (H'.mem o g).mark ≡ false

  dead_stable : (H H' : Heap) → Grows H H' → (o : ℕ) → o < H.size → ((g : ℕ) → Dead St H o g → Stable St H o g)
      → ((g : ℕ) → Dead St H' o g → Dead St H o g ⊎ Stable St H' o g) → (g : ℕ) → Dead St H' o g → Stable St H' o g
  dead_stable H H' G o l d a g x = elim (a g x) [ inl y ↦ G.stays o g l (d g y) | inr y ↦ y ]

  part_frame : (H H' : Heap) → Grows H H' → (o s w : ℕ) (k : Right) → o < H.size → Part St H o w k
      → KeepA H H' (suc o) → KeepO H H' (own_ty (pt k s w) (suc o)) → KeepP H H' (pris_ty (pt k s w) (suc o)) → Part St H' o w k
  part_frame H H' G o s w alias l c a b p = (λ f h. G.stays o f l (c.0 f h), dead_stable H H' G o l c.1 (a o refl))
  part_frame H H' G o s w owned l c a b p = (λ f h. G.stays o f l (c.0 f h), λ f h. c.1 f (b o refl f h))
  part_frame H H' G o s w pristine l c a b p = (λ f. p o refl f (c.0 f), λ f h. c.1 f (b o refl f h))

  pub conf_frame : (H H' : Heap) → Grows H H' → (v : Slot) (t : Claim) → Conf St H v t
      → KeepA H H' (name_of v) → KeepO H H' (own_ty t (name_of v)) → KeepP H H' (pris_ty t (name_of v)) → Conf St H' v t
  conf_frame H H' G Empty t c a b p = c
  conf_frame H H' G Null num c a b p = c
  conf_frame H H' G Null (pt k s w) c a b p = tt
  conf_frame H H' G (Number n) num c a b p = tt
  conf_frame H H' G (Number n) (pt k s w) c a b p = c
  conf_frame H H' G (Reference o) num c a b p = c
  conf_frame H H' G (Reference o) (pt k s w) c a b p = record {
    low = let m = G.more in let l = c.low in omega arith;
    struct = G.kinds o c.low ∙ c.struct;
    part = part_frame H H' G o s w k c.low c.part a b p;
  }

  pub saved_frame : (H H' : Heap) → Grows H H' → (v : Slot) (t : Claim) (ts : List Claim) → Saved St H v t ts
      → KeepA H H' (name_of v) → KeepO H H' (own_ty t (name_of v)) → KeepP H H' (pris_ty t (name_of v)) → Saved St H' v t ts
  saved_frame H H' G v t [] c a b p = tt
  saved_frame H H' G v t (u ∷ us) c a b p =
      let b' : KeepO H H' (own_ty u (name_of v)) = λ o e. b o (rank_own u t (name_of v) o c.1 e) in
      let p' : KeepP H H' (pris_ty u (name_of v)) = λ o e. p o (rank_pris u t (name_of v) o c.1 e) in
      (conf_frame H H' G v u c.0 a b' p', c.1, saved_frame H H' G v u us c.2 a b' p')

  pub entry_frame : (H H' : Heap) → Grows H H' → (e : Entry) → EntryOK St H e
      → KeepA H H' (name_e e) → KeepO H H' (own_e e) → KeepP H H' (pris_e e) → EntryOK St H' e
  entry_frame H H' G out c a b p = tt
  entry_frame H H' G (here v t ts) c a b p = (conf_frame H H' G v t c.0 a b p, saved_frame H H' G v t ts c.1 a b p)

  pub cell_frame : (H H' : Heap) → Grows H H' → (o f : ℕ) → H'.kind o ≡ H.kind o → H'.mem o f ≡ H.mem o f → CellOK St H o f
      → KeepA H H' (name_c (field_at St H o f) (H.mem o f)) → KeepO H H' (own_c (field_at St H o f) (H.mem o f)) → CellOK St H' o f
  cell_frame H H' G o f ek em c a b =
      let ef : field_at St H' o f ≡ field_at St H o f = ap (λ (k : ℕ). St.field k f) ek in
      let eo : mode_at St H' o f ≡ mode_at St H o f = ap (λ (k : ℕ). St.mode k f) ek in
      record {
        points = λ p e.
            let e' : name_c (field_at St H o f) (H.mem o f) ≡ suc p = cc in
            let q = c.points p e' in
            (let m = G.more in let l = q.0 in omega arith, G.kinds p q.0 ∙ q.1 ∙ ap struct_of (sym ef), dead_stable H H' G p q.0 q.2 (a p e'));
        whole = λ p e g d.
            let e' : own_c (field_at St H o f) (H.mem o f) ≡ suc p = cc in
            c.whole p e' g (b p e' g d);
        marked = λ e.
            let e' : (H.mem o f).mark ≡ true = cc in
            elim (c.marked e') [ inl x ↦ inl (eo ∙ x) | inr x ↦ inr (eo ∙ x) ];
        fresh = λ x y. let x' : mode_at St H o f ≡ Once = cc in let y' : (H.mem o f).mark ≡ false = cc in
            ap (λ (k : Cell). k.word) em ∙ c.fresh x' y';
        dying = λ d. let d' : (H.mem o f).dead ≡ true = cc in
            let q = c.dying d' in (let m = G.more in let l = q.0 in omega arith, λ x. q.1 (sym eo ∙ x));
      }
