-- The table is lent on for a call and comes back: as `&` with its stations as they were, and as `&mut` with the stations that
-- the callee leaves. Its own borrow stands open meanwhile, which keeps its lifetime's token.
use Rattle.std.specs.Prelude.{◌≡◌, refl, ℕ, List, [], ◌∷◌, length}
use Rattle.std.proofs.Common.{sym, ◌∙◌, ap, subst}
use seplogic.Ra.Ura.{Ura}
use base.Fraction.{full_share}
use mir.Syntax.{Lifetime}
use mir.Val.{Val}
use base.Logic.{ent, sep}
use base.Fml.{Lft, GName, Share, Fml, fsep, flft, fdead, fobs, fauth, flent, fobor, fhide}
use types.Logic.{Logic, sem}
use types.Kit.{Goal, Soaks, Item, ‵, ◌⊛◌, some, later, Seq, Step, step, ◌$◌, ◌∵◌, !, qed, done, move, use1, use3, drop, split, pick, rewrite, fsplit, fjoin, feq_i, await}
use types.Tokens.{lent_back}
use types.SemTy.{cells, Arr}
use types.Share.{arr_parts}
use denote.Shadow.{pure_l, pure_i}
use denote.Memory.{mem, shares}
use Rattle.std.specs.Borrow.{Bor, MutBor}
use denote.Copied.{each_lends}
use denote.Lends.{Lent-map}
use denote.Slice.{slice_val, MutSlice, ShrSlice, heres, Room, finally, mut_slice_at, shr_slice_at, coded_holeys, elements_shared}
use denote.Lend.{Held, lends_slice, slice_back}
use denote.Index.{row, whole_out, whole_in, opens_slice, closes_slice}
use Rattle.station.specs.declared.Station.{Station}
use Rattle.seating.specs.Stations.{R, copied}

module _ (κ : Lft) (q : Share) (γ : GName) (b o : ℕ) where
  -- the reference under a name, at a list of stations; one that is shared; and the value of both
  abbrev pub named_table : GName → List Station → MutBor (List Station)
  named_table δ ys = record { ref_ptr = (b, o); ghost_name = δ; now = ys }

  abbrev pub shared_table : List Station → Bor (List Station)
  shared_table ys = record { ref_ptr = (b, o); now = ys }

  abbrev pub slice : List Station → List Val
  slice ys = slice_val (b, o) (length ys) ∷ []

  -- what its value says: it is the pointer and the count, and the stations have room
  abbrev pub Is-slice : List Station → List Val → Type 0
  Is-slice ys vs = (vs ≡ slice ys) × Room R (length ys)

  -- what is had of the table while it is lent on: its borrow, open, and both halves of its name
  abbrev pub Waits : List Station → Fml
  Waits ys = fsep (fobor κ q (Held R (length ys) b o γ)) (fsep (fobs γ ((coded_holeys R).code (heres R ys)))
      (fauth γ ((coded_holeys R).code (heres R ys))))

  -- what comes back to it, of a `&` and of a `&mut`
  abbrev pub Shared : Lft → List Station → Fml
  Shared κ' ys = flent κ' ((arr_parts (shares R) (length ys)).part full_share ys b o)

  abbrev pub Lent : Lft → List Station → GName → Fml
  Lent κ' ys δ = flent κ' (Held R (length ys) b o δ)

  module _ {M : Type 1} {𝓤 : Ura M} (𝓛 : Logic 𝓤) where
    -- the stations in memory become what a `&` to each holds, with the lender's right to them
    shared-out : (κ' : Lft) (ys : List Station) → ent 𝓤 (sem 𝓛 ((arr_parts (shares R) (length ys)).part full_share ys b o))
        (𝓛.H.⇛ (sep 𝓤 (sem 𝓛 (elements_shared R ys b o κ')) (sem 𝓛 (Shared κ' ys))))
    shared-out κ' ys =
        Lent-map 𝓛 ((arr_parts (shares R) (length ys)).part full_share ys b o) (row R full_share ys b o) (elements_shared R ys b o)
        (qed 𝓛 (‵ ((arr_parts (shares R) (length ys)).part full_share ys b o) ∷ []) ∵ fsplit ! $ drop ! $ done !)
        (qed 𝓛 (‵ (row R full_share ys b o) ∷ []) ∵ feq_i ! ℕ (length ys) (length ys) refl $ fjoin ! $ done !)
        (each_lends 𝓛 R (copied 𝓛) full_share ys b o) κ'

  module _ {M : Type 1} {𝓤 : Ura M} {𝓛 : Logic 𝓤} {K : Type 0} {Γ : List (Item 𝓤)} {G : Goal 𝓤 𝓛.H} where
    -- the borrow is opened, and what its value says is learned
    pub opened : K → Soaks G → (ℓ : Lifetime) (ys : List Station) (vs : List Val) → (Is-slice ys vs
        → Seq K 𝓛 (‵ (row R full_share ys b o) ∷ ‵ (Waits ys) ∷ Γ) G)
        → Seq K 𝓛 (‵ ((MutSlice ℓ κ R).own_val (named_table γ ys) vs) ∷ ‵ (flft κ q) ∷ Γ) G
    opened t z ℓ ys vs k =
        fsplit t $ pure_l t (mut_slice_at R (named_table γ ys) vs) (λ p. fsplit t $ opens_slice t z R ys b o $
        move t (2 ∷ 3 ∷ []) $ fjoin t $ move t (2 ∷ 0 ∷ []) $ fjoin t $ move t (1 ∷ 0 ∷ []) $ k p)

    -- and closed at as many stations
    pub closed : K → Soaks G → (ℓ : Lifetime) (ys zs : List Station) (vs : List Val) → Is-slice ys vs → length zs ≡ length ys
        → Step K 𝓛 (‵ ((MutSlice ℓ κ R).own_val (named_table γ zs) vs) ∷ ‵ (flft κ q) ∷ Γ) G (‵ (row R full_share zs b o) ∷ ‵ (Waits ys) ∷ Γ) G
    closed t z ℓ ys zs vs p e = step (λ k.
        move t (1 ∷ []) $ fsplit t $ move t (1 ∷ []) $ fsplit t $ move t (3 ∷ 2 ∷ 0 ∷ 1 ∷ []) $ closes_slice t z R ys zs e b o $ fjoin t $
        pure_i t (mut_slice_at R (named_table γ zs) vs) (tt, (tt, tt)) (
          p.0 ∙ ap (λ (m : ℕ). slice_val (b, o) m ∷ []) (sym e),
          subst (Room R) (sym e)
              p.1,
        ) $ fjoin t $ k)

    -- lent as `&`, and back
    pub shares-table : K → Soaks G → (ℓ ℓ' : Lifetime) (κ' : Lft) (ys : List Station) (vs : List Val)
        → (Is-slice ys vs → Seq K 𝓛 (‵ ((ShrSlice ℓ' κ' R).own_val (shared_table ys) vs) ∷ ‵ (Shared κ' ys) ∷ ‵ (Waits ys) ∷ Γ) G)
        → Seq K 𝓛 (‵ ((MutSlice ℓ κ R).own_val (named_table γ ys) vs) ∷ ‵ (flft κ q) ∷ Γ) G
    shares-table t z ℓ ℓ' κ' ys vs k =
        opened t z ℓ ys vs (λ p. feq_i t ℕ (length ys) (length ys) refl $ fjoin t $
        use1 𝓛 (later (‵ (fhide (elements_shared R ys b o κ')) ⊛ ‵ (Shared κ' ys))) (shared-out 𝓛 κ' ys) $ await t z $ split t $
        pure_i t (shr_slice_at R (shared_table ys) vs) (tt, (tt, tt)) p $ fjoin t $ k p)

    pub shared-home : K → Soaks G → (ℓ : Lifetime) (κ' : Lft) (ys : List Station) (vs : List Val) → Is-slice ys vs
        → Step K 𝓛 (‵ ((MutSlice ℓ κ R).own_val (named_table γ ys) vs) ∷ ‵ (flft κ q) ∷ Γ) G (‵ (fdead κ') ∷ ‵ (Shared κ' ys) ∷ ‵ (Waits ys) ∷ Γ) G
    shared-home t z ℓ κ' ys vs p = step (λ k. lent_back t z $ fsplit t $ drop t $ closed t z ℓ ys ys vs p refl $ k)

    -- lent as `&mut`, and back
    pub lends-table : K → Soaks G → (ℓ ℓ' : Lifetime) (κ' : Lft) (ys : List Station) (vs : List Val)
        → ((δ : GName) → Is-slice ys vs → Seq K 𝓛 (‵ ((MutSlice ℓ' κ' R).own_val (named_table δ ys) vs) ∷ ‵ (Lent κ' ys δ) ∷ ‵ (Waits ys) ∷ Γ) G)
        → Seq K 𝓛 (‵ ((MutSlice ℓ κ R).own_val (named_table γ ys) vs) ∷ ‵ (flft κ q) ∷ Γ) G
    lends-table t z ℓ ℓ' κ' ys vs k =
        opened t z ℓ ys vs (λ p. use1 𝓛 (‵ (cells (mem R) ys b o)) (whole_in 𝓛 R ys b o) $
        use1 𝓛 (later (some (λ (δ : GName). ‵ ((MutSlice ℓ' κ' R).own_val (named_table δ ys) (slice ys)) ⊛ ‵ (Lent κ' ys δ))))
        (lends_slice 𝓛 R ℓ' κ' ys b o p.1) $
        await t z $ pick t (λ δ. split t $ rewrite t 0 (λ (us : List Val). ‵ ((MutSlice ℓ' κ' R).own_val (named_table δ ys) us)) (sym p.0) refl $
        k δ p))

    pub lent-home : K → Soaks G → (ℓ : Lifetime) (κ' : Lft) (δ : GName) (ys zs : List Station) (vs : List Val) → Is-slice ys vs
        → length zs ≡ length ys
        → Step K 𝓛 (‵ ((MutSlice ℓ κ R).own_val (named_table γ zs) vs) ∷ ‵ (flft κ q) ∷ Γ) G
        (‵ (fdead κ') ∷ ‵ (Lent κ' ys δ) ∷ ‵ (finally R δ zs) ∷ ‵ (Waits ys) ∷ Γ) G
    lent-home t z ℓ κ' δ ys zs vs p e = step (λ k.
        use3 𝓛 (later (‵ ((Arr (mem R) (length ys)).own_at zs b o))) (slice_back 𝓛 R κ' δ zs (length ys) b o) $ await t z $ fsplit t $ drop t $
        use1 𝓛 (‵ (row R full_share zs b o)) (whole_out 𝓛 R zs b o) $ closed t z ℓ ys zs vs p e $ k)
