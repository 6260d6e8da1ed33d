-- The values of an answer as they are printed: a line for a question, refused too, and nothing for an event.
use Rattle.std.specs.Prelude.{ℕ, List, [], ◌++◌, codes}
use Rattle.std.specs.Fmt.{decimal, signed_decimal}
use Rattle.paper.specs.declared.Values.{Values}
use Rattle.paper.specs.declared.Values.TheVariants.{Event, Reading, Lead, InFlight}

abbrev pub values_text : Values → List ℕ
values_text Event = []
values_text (Reading reading round) = codes "reading " ++ decimal reading.0 ++ codes " round " ++ decimal round ++ codes "\n"
values_text (Lead lead) = codes "lead " ++ signed_decimal lead ++ codes "\n"
values_text (InFlight count) = codes "flight " ++ decimal count ++ codes "\n"
