-- A call as a walk makes it: what a callee asks whose parameters are plain data, and what is had of any callee once it has
-- returned: its result, known by its clause and typed, and of a `&mut` its last value.
use Rattle.std.specs.Prelude.{◌≡◌, List, [], ◌∷◌}
use Rattle.std.proofs.Common.{◌∙◌, ap, subst}
use seplogic.Ra.Ura.{Ura}
use mir.Val.{Val}
use base.Logic.{ent, sep, emp, id⊢}
use types.Logic.{Logic}
use contract.Monad.{fact, fact_mono}
use contract.Lifetimes.{Lfts}
use types.Kit.{Goal, Soaks, Item, ‵, raw, ◌⊛◌, some, later, Seq, ◌$◌, ◌∵◌, !, qed, move, use0, use1, drop, split, join, pick, await, done}
use denote.RattleType.{RattleType, owns}
use denote.Laws.{Is, Ises, Are, Makess, shows, owns_make}
use denote.Signature.{type_at, types_at}
use denote.Steps.{only, heard, facts}
use denote.Struct.Declared.{Declared, row}
use denote.Struct.Laws as LL
use denote.Triple.Bound.{Bound}
use denote.Triple.Entry.{alive}
use denote.Triple.Spec.{triple_of}
use denote.Triple.Walked.{needs}
use denote.Triple.Clauses.{Ended, Clauses, Lasts, at_exit, lasts, closing}

-- the callee's result, at its lifetimes
abbrev Result : (T : Ended) → Lfts T.signature.lifetimes → RattleType
Result T κs = type_at T.signature.result κs

-- a typed value is the one that its record has
pub same-value : (D : Declared) (L : LL.Laws D) {r r' : D.D} {w : Val} → Is (row D) r (w ∷ []) → r ≡ r'
    → (w ≡ LL.val D L r') × Is (row D) r' (LL.vals D L r')
same-value D L {r} is e = (
  ap only (LL.tells D L r _ is) ∙ ap (LL.val D L) e,
  subst (λ (x : D.D). Is (row D) x (LL.vals D L x)) e (subst (Is (row D) r)
      (LL.tells D L r _ is) is),
)

-- a callee's parameters
abbrev Params : (T : Ended) → Lfts T.signature.lifetimes → List RattleType
Params T κs = types_at T.signature.params κs

-- two clauses are one fact
pub both : {M : Type 1} (𝓤 : Ura M) (φ ψ : Type 0) → ent 𝓤 (sep 𝓤 (fact 𝓤 φ) (fact 𝓤 ψ)) (fact 𝓤 (φ × ψ))
both 𝓤 φ ψ = needs 𝓤 ψ (fact 𝓤 φ) (λ y. fact_mono 𝓤 φ (φ × ψ) (λ x. (x, y)))

module _ {M : Type 1} {𝓤 : Ura M} (𝓛 : Logic 𝓤) where
  -- plain data are had for nothing: what is left is the tokens, and what the callee requires
  pub asks : (T : Ended) (c : Clauses 𝓤 T) (x : Bound 𝓛 T.signature) (g : (c x.0 x.3).ghost)
      → Makess 𝓛 (Params T x.0) (Ises (Params T x.0)) → Are (Params T x.0) (Ises (Params T x.0)) x.3 x.4
      → ent 𝓤 (emp 𝓤) (alive 𝓛 T.signature x.0 x.1) → ent 𝓤 (emp 𝓤) ((c x.0 x.3).requires g)
      → ent 𝓤 (emp 𝓤) ((triple_of 𝓛 T.signature (closing 𝓛 T c)).pre (x, g))
  asks T c x g makes are tokens met =
      qed 𝓛 [] ∵ use0 𝓛 (raw ((c x.0 x.3).requires g)) met $
      use0 𝓛 (‵ (owns (Params T x.0) x.3 x.4)) (owns_make 𝓛 (Params T x.0) (Ises (Params T x.0)) makes x.3 x.4 are) $
      use0 𝓛 (raw (alive 𝓛 T.signature x.0 x.1)) tokens $ join ! $ join ! $ done !

module _ {M : Type 1} {𝓤 : Ura M} {𝓛 : Logic 𝓤} {K : Type 0} {Γ : List (Item 𝓤)} {G : Goal 𝓤 𝓛.H} where
  -- the result and the last values, at a fact that the clause states of both
  pub gives-lasts : K → Soaks G → (T : Ended) (c : Clauses 𝓤 T) (x : Bound 𝓛 T.signature) (g : (c x.0 x.3).ghost) (w : Val)
      → (φ : (Result T x.0).Denot → Lasts T x.0 x.3 → Type 0)
      → ((r : (Result T x.0).Denot) (ws : Lasts T x.0 x.3)
      → ent 𝓤 ((c x.0 x.3).ensures g r (at_exit T x.0 x.3 ws)) (fact 𝓤 (φ r ws)))
      → ((r : (Result T x.0).Denot) (ws : Lasts T x.0 x.3) → φ r ws → Is (Result T x.0) r (w ∷ [])
      → Seq K 𝓛 (‵ (lasts T x.0 x.3 ws) ∷ raw (alive 𝓛 T.signature x.0 x.1) ∷ Γ) G)
      → Seq K 𝓛 (raw ((triple_of 𝓛 T.signature (closing 𝓛 T c)).post (x, g) w) ∷ Γ) G
  gives-lasts t z T c x g w φ says k =
      use1 𝓛 (later (some (λ (r : (Result T x.0).Denot). (raw (alive 𝓛 T.signature x.0 x.1) ⊛ ‵ ((Result T x.0).own_val r (w ∷ [])))
      ⊛ some (λ (ws : Lasts T x.0 x.3). ‵ (lasts T x.0 x.3 ws) ⊛ raw ((c x.0 x.3).ensures g r (at_exit T x.0 x.3 ws))))))
      (id⊢ 𝓤 _) $
      await t z $ pick t (λ r. split t $ move t (1 ∷ []) $ pick t (λ ws. split t $ move t (1 ∷ []) $
      use1 𝓛 (raw (fact 𝓤 (φ r ws))) (says r ws) $ heard t (φ r ws) (λ e. move t (1 ∷ []) $ split t $ move t (1 ∷ []) $
      facts t (Result T x.0) (Is (Result T x.0)) (shows 𝓛 (Result T x.0)) r (w ∷ []) (λ is. move t (1 ∷ 0 ∷ []) $ k r ws e is))))

  -- the result alone
  pub gives : K → Soaks G → (T : Ended) (c : Clauses 𝓤 T) (x : Bound 𝓛 T.signature) (g : (c x.0 x.3).ghost) (w : Val)
      → (φ : (Result T x.0).Denot → Type 0)
      → ((r : (Result T x.0).Denot) (ws : Lasts T x.0 x.3) → ent 𝓤 ((c x.0 x.3).ensures g r (at_exit T x.0 x.3 ws)) (fact 𝓤 (φ r)))
      → ((r : (Result T x.0).Denot) → φ r → Is (Result T x.0) r (w ∷ []) → Seq K 𝓛 (raw (alive 𝓛 T.signature x.0 x.1) ∷ Γ) G)
      → Seq K 𝓛 (raw ((triple_of 𝓛 T.signature (closing 𝓛 T c)).post (x, g) w) ∷ Γ) G
  gives t z T c x g w φ says k = gives-lasts t z T c x g w (λ r ws. φ r) says (λ r ws e is. drop t $ k r e is)
