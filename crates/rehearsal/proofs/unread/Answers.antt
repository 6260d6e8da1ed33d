-- `rehearsal::unread` answers `stopped`: 1 has one name, and every other refusal is the script's. Assumes nothing.
use Rattle.std.proofs.Common.{ℕ, List, ◌≡◌, refl, ap, ◌∙◌}
use borrow.Author.Tests.{eq-eqb, ne_eqb}
use lib.Dec.{eqb}
use Rattle.clock.specs.Pick.{pick}
use Rattle.refusal.specs.declared.Refusal.TheVariants.{Stations}
use Rattle.refusal.specs.Refusal.{number}
use Rattle.refusal.proofs.Laws.{number-one}
use Rattle.text.specs.Text.{setup_line, script_line, roomy, printed, behind}
use Rattle.rehearsal.specs.Opening.{ended, stopped, open_part, open_out}
use Rattle.rehearsal.proofs.unread.Goals as goal
use Rattle.rehearsal.proofs.unread.Goals.{in-Stations, in_default}

-- the line that is written is the first
made : (k end : ℕ) (out first : List ℕ) (place : ℕ) (w : List ℕ) → pick (eqb k 1) (setup_line k) (script_line k) ≡ first
    → place ≡ behind (roomy out 0) 0 first → w ≡ printed (roomy out 0) out 0 first
    → (ended k end place ≡ open_part (stopped k end) out) × (w ≡ open_out (stopped k end) out)
made k end out first place w f ep ew = rw (f, ep) (refl, ew)

pub returns : goal.returns
returns c =
    let a = c.args in
    elim c.match-refusal.branch [
      | in-Stations w ↦
          let k = ap number w.in-Stations.is in
          let is = made (number a.refusal) a.end a.out.now (setup_line (number a.refusal)) c.match-refusal.place c.match-refusal.out (rw (eq-eqb _ 1 k) refl)
          (w.place-is ∙ rw w.number.ensures at w.setup_line-place.ensures.value) (w.out-is ∙ rw w.number.ensures at w.setup_line-place.ensures.out_after) in
          record { value = c.ended.ensures ∙ is.0; out_after = is.1 }
      | in_default w ↦
          let other = ne_eqb (number a.refusal) 1 (λ e. w.in_default.not-Stations (number-one a.refusal Stations e)) in
          let is = made (number a.refusal) a.end a.out.now (script_line (number a.refusal)) c.match-refusal.place c.match-refusal.out (rw other refl)
          (w.place-is ∙ rw w.number-in_default.ensures at w.script_line-place.ensures.value) (w.out-is ∙ rw w.number-in_default.ensures at w.script_line-place.ensures.out_after) in
          record { value = c.ended.ensures ∙ is.0; out_after = is.1 }
    ]
