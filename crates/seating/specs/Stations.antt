-- What a walk over a table speaks of: a function's locals, the turns of a loop over the places, a station's type and value
-- with the laws of both, and where station i lies, of 32 bytes each.
use Rattle.std.specs.Prelude.{◌≡◌, ℕ, zero, suc, ◌+◌, ◌-◌, ◌*◌, ◌<◌, ◌^◌, List, [], ◌∷◌, T}
use mathlib.Core.WellFounded.InvImage
use mathlib.Core.WellFounded.{WellFounded}
use lib.WfN.{lt-wf_rel}
use Rattle.std.proofs.Common.{arith}
use seplogic.Ra.Ura.{Ura}
use base.Fraction.{full_share}
use mir.Syntax.{Ty, ty_unit, Local, local}
use mir.Val.{Val, has_ty, WT}
use base.Fml.{fat, froom, fdies}
use prog.Wp.{Heap, Env}
use types.Logic.{Logic}
use types.Kit.{Item, ‵}
use Rattle.std.specs.Borrow.{RattleType}
use denote.Laws.{Is, Tells, Makes, Copy}
use denote.Copied.{Copied}
use denote.Slice.{Room}
use denote.Index.{place, place_is}
use denote.Struct.Laws as LL
use Rattle.station.specs.declared.Station.{Station}
use Rattle.station.specs.contracts.Station as S
use Rattle.station.proofs.Station.TheLaws as S'

-- a function's locals, where they lie
abbrev pub places : {M : Type 1} (𝓤 : Ura M) (H : Heap 𝓤) → List Local → List ℕ → Env 𝓤 H
places 𝓤 H [] ls = []
places 𝓤 H (local τ h ∷ ts) [] = []
places 𝓤 H (local τ h ∷ ts) (l ∷ ls) = (τ, l) ∷ places 𝓤 H ts ls

abbrev pub kind : List Local → ℕ → Ty
kind [] n = ty_unit
kind (local τ h ∷ ts) zero = τ
kind (local τ h ∷ ts) (suc n) = kind ts n

-- a local with nothing in it, and one that holds a value
abbrev pub bare : {M : Type 1} (𝓤 : Ura M) → Ty → ℕ → List (Item 𝓤) → List (Item 𝓤)
bare 𝓤 τ l Γ = ‵ (froom τ l 0) ∷ ‵ (fdies τ l) ∷ Γ

abbrev pub holds : {M : Type 1} (𝓤 : Ura M) → Ty → ℕ → Val → List (Item 𝓤) → List (Item 𝓤)
holds 𝓤 τ l v Γ = ‵ (fat full_share τ l 0 v) ∷ ‵ (fdies τ l) ∷ Γ

-- the turns of a loop over the twelve places, by how many are done: each brings it nearer to the last
abbrev pub Nearer : {X : Type 0} → (X → ℕ) → X → X → Type 0
Nearer so_far j i = 12 - so_far j < 12 - so_far i

pub nearer-wf : {X : Type 0} (so_far : X → ℕ) → WellFounded (Nearer so_far)
nearer-wf so_far = InvImage.wf (λ i. 12 - so_far i) lt-wf_rel.wf

abbrev pub R : RattleType
R = S.the_row

abbrev pub vals : Station → List Val
vals = LL.vals S.the_type S'.the_laws

abbrev pub val : Station → Val
val = LL.val S.the_type S'.the_laws

abbrev pub tells : Tells R (Is R) vals
tells = LL.tells S.the_type S'.the_laws

module _ {M : Type 1} {𝓤 : Ura M} (𝓛 : Logic 𝓤) where
  abbrev pub makes : Makes 𝓛 R (Is R)
  makes = LL.makes S.the_type S'.the_plain 𝓛

  module _ where
    abbrev pub copy : Copy 𝓛 R
    copy = LL.copy S.the_type S'.the_copy 𝓛

    abbrev pub copied : Copied 𝓛 R
    copied = LL.copied S.the_type S'.the_copy 𝓛

    pub typed : (s : Station) (v : Val) → Is R s (v ∷ []) → T (has_ty S'.mir v) × WT v
    typed s v p = ((LL.lawful S.the_type S'.the_laws 𝓛).typed s (v ∷ []) p).0

-- station i of a table lies within a usize
pub place-fits : {n i : ℕ} → Room R n → i < n → i * 32 < 2 ^ 64
place-fits g h = omega (arith, g.1)

pub place_at : (o i : ℕ) → place 32 o i ≡ i * 32 + o
place_at o i = place_is 32 o i
