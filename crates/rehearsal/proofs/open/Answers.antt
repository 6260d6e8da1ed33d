-- `rehearsal::open` answers the setup and writes the first line, each answer at its own test. Assumes nothing.
use Rattle.std.proofs.Common.{refl, ap, sym, ◌∙◌, length, arith}
use Rattle.std.proofs.Math.Seq.{length-take-le}
use Rattle.script.specs.Read.{SetupRead}
use Rattle.refusal.proofs.Laws.{refused}
use Rattle.script.specs.Read.{read_setup, unread}
use Rattle.script.proofs.ReadLaws.{first-long, setup-few}
use Rattle.rehearsal.specs.Opening.{open_is, opening-long, opening-unread, opening-begins}
use Rattle.run.specs.Part.{Part}
use Rattle.rehearsal.proofs.open.Goals as goal

pub returns-then-bytes-gt-MAX_SCRIPT : goal.returns-then-bytes-gt-MAX_SCRIPT
returns-then-bytes-gt-MAX_SCRIPT c =
    let a = c.args in
    let is =
    open_is a.bytes.now a.out.now _ (opening-long a.bytes.now (omega arith)) _ _ (c.ended.ensures ∙ rw (c.script_line-place.ensures.value, c.number.ensures) refl)
    (rw c.number.ensures at c.script_line-place.ensures.out_after) in
    record { value = is.0; out_after = is.1 }

pub returns-in-Err : goal.returns-in-Err
unfolding unread
returns-in-Err c =
    let a = c.args in
    let is = open_is a.bytes.now a.out.now _ (opening-unread a.bytes.now (omega arith) _ c.in-Err.ensures (refused _)) _ _
    c.unread.ensures.value c.unread.ensures.out_after in
    record { value = is.0; out_after = is.1 }

pub slice_bounds-first-end : goal.slice_bounds-first-end
slice_bounds-first-end c =
    let a = c.args in
    let long = ap (λ (x : SetupRead). length x.first) c.in-Ok.ensures in
    let some = ap (λ (x : SetupRead). x.plan.stations) c.in-Ok.ensures in
    let most = first-long a.bytes.now (read_setup a.bytes.now 0) in
    let few = setup-few a.bytes.now 0 in
    omega (arith, long, some, most, few)

pub slice_bounds-fresh-end : goal.slice_bounds-fresh-end
slice_bounds-fresh-end c =
    let a = c.args in
    let long = ap (λ (x : SetupRead). length x.first) c.in-Ok.ensures in
    let some = ap (λ (x : SetupRead). x.plan.stations) c.in-Ok.ensures in
    let most = first-long a.bytes.now (read_setup a.bytes.now 0) in
    let few = setup-few a.bytes.now 0 in
    sym (length-take-le _ _ (omega (arith, long, some, most, few)))

pub returns-in-Ok-fresh : goal.returns-in-Ok-fresh
returns-in-Ok-fresh c =
    let a = c.args in
    let part : Part = record { answer = 0; line = c.in-Ok-fresh.line; next = c.in-Ok.read.next; number = 0; place = c.setup_line.result } in
    let is = open_is a.bytes.now a.out.now _
    (opening-begins a.bytes.now (omega arith) _ c.in-Ok.ensures (λ z. omega (arith, z)) refl _ c.in-Ok-fresh.ensures) part _
    (rw c.setup_line.ensures.value refl) c.setup_line.ensures.out_after in
    record { value = is.0; out_after = is.1 }

pub returns-in-Err-fresh : goal.returns-in-Err-fresh
returns-in-Err-fresh c =
    let a = c.args in
    let is = open_is a.bytes.now a.out.now _
    (opening-begins a.bytes.now (omega arith) _ c.in-Ok.ensures (λ z. omega (arith, z)) refl _ c.in-Err-fresh.ensures) _ _
    (c.ended-in-Err-fresh.ensures ∙ rw (c.setup_line-place.ensures.value, c.number-in-Err-fresh.ensures) refl)
    (rw c.number-in-Err-fresh.ensures at c.setup_line-place.ensures.out_after) in
    record { value = is.0; out_after = is.1 }
