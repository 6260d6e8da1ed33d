-- `rehearsal::ended` answers no run: a default line. Assumes nothing.
use Rattle.std.proofs.Common.{ap}
use Rattle.line.specs.declared.Line.{Line}
use Rattle.line.proofs.Defaults.{default-line}
use Rattle.refusal.specs.Refusal.{number}
use Rattle.run.specs.Part.{Part}
use Rattle.rehearsal.proofs.ended.Goals as goal

pub returns : goal.returns
returns c =
    let part : Line → Part = λ l. record { answer = number c.args.refusal; line = l; next = c.args.next; number = 0; place = c.args.place } in
    ap part (default-line c.default.result c.default.ensures)
