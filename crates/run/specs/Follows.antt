-- The code's record after a list of events.
use Rattle.std.specs.Prelude.{ℕ, List, [], ◌∷◌}
use Rattle.line.specs.declared.Line.{Line}
use Rattle.line.specs.History.{Entry}
use Rattle.run.specs.Play.{played, played_words}

-- a record and its words
pub record Kept : Type 0 where
  pub line : Line
  pub words : List ℕ

-- after an event
abbrev pub plays : Kept → Entry → Kept
plays k e = record {
  line = (played k.line k.words e.event e.increments).line;
  words = played_words k.line k.words e.event e.increments;
}

-- after each of them in order
unfoldable pub plays_all : Kept → List Entry → Kept
plays_all k [] = k
plays_all k (e ∷ es) = plays_all (plays k e) es
