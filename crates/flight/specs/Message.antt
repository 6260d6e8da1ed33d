-- The messages on their way. A flight is a list of messages; the words that hold it are a coding of that list, three words to
-- a message: the packed names, the signers, the time sent. Each word is the code of exactly one thing.
use Rattle.std.specs.Prelude.{ℕ, zero, suc, ◌+◌, ◌*◌, ◌-◌, ◌/◌, ◌%◌, ◌^◌, ◌<◌, Bool, true, false, ◌&&◌, ◌||◌, Option, None, Some, List, [], ◌∷◌, ◌++◌, ltb, leb, eqb, length, get_or, take, drop, set}
use Rattle.clock.specs.Pick.{pick}
use Rattle.mask.specs.Mask.{has}
use Rattle.flight.specs.declared.Names.{Names}
use Rattle.flight.specs.declared.Message.{Message}

-- ---- names

-- the four names of a message
abbrev pub names_of : Message → Names
names_of m = record { sender = m.sender; recipient = m.recipient; round = m.round; kind = m.kind }

-- the message has these four names
unfoldable pub named : Names → Message → Bool
named x m = eqb m.sender x.sender && (eqb m.recipient x.recipient && (eqb m.round x.round && eqb m.kind x.kind))

-- two messages agree in all four names
abbrev pub same_names : Message → Message → Bool
same_names a b = named (names_of a) b

-- the four names in one number
unfoldable pub packed : Names → ℕ
packed x = x.round * 512 + x.kind * 256 + x.sender * 16 + x.recipient

-- a sender, a round and a kind that one number holds beside any recipient
unfoldable pub packs : ℕ → ℕ → ℕ → Bool
packs sender round kind = ltb sender 16 && (ltb round (2 ^ 55) && ltb kind 2)

-- the four names fit one number
unfoldable pub packable : Names → Bool
packable x = ltb x.recipient 16 && packs x.sender x.round x.kind

-- ---- words

-- a message's first word
abbrev pub key_of : Message → ℕ
key_of m = packed (names_of m)

-- the message whose words these are
unfoldable pub message_of : ℕ → ℕ → ℕ → Message
message_of key signers sent =
    record { sender = key / 16 % 16; recipient = key % 16; round = key / 512; kind = key / 256 % 2; signers = signers; sent = record { 0 = sent } }

-- the names that a first word packs
abbrev pub unpacked : ℕ → Names
unpacked key = names_of (message_of key 0 0)

-- the i-th message of the words; a word past their end is 0
unfoldable pub message_at : List ℕ → ℕ → Message
message_at l i = message_of (get_or l (3 * i) 0) (get_or l (3 * i + 1) 0) (get_or l (3 * i + 2) 0)

-- the first n messages of the words
unfoldable pub decode : ℕ → List ℕ → List Message
decode zero l = []
decode (suc n) l = decode n l ++ (message_at l n ∷ [])

-- the words of the messages, in order
unfoldable pub words_of : List Message → List ℕ
words_of [] = []
words_of (m ∷ ms) = key_of m ∷ m.signers ∷ m.sent.0 ∷ words_of ms

-- the words l with the messages laid over them from the start; what stands behind keeps its place
unfoldable pub coded : List ℕ → List Message → List ℕ
coded l ms = words_of ms ++ drop (3 * length ms) l

-- three words from place `at` on written anew
abbrev pub stored : List ℕ → ℕ → ℕ → ℕ → ℕ → List ℕ
stored l at a b c = set (set (set l at a) (at + 1) b) (at + 2) c

-- the words have room for n messages
unfoldable pub holds : ℕ → List ℕ → Bool
holds n l = leb (3 * n) (length l)

-- what three words hold exactly
pub record Codable (m : Message) : Type 0 where
  pub sender : m.sender < 16
  pub recipient : m.recipient < 16
  pub round : m.round < 2 ^ 55
  pub kind : m.kind < 2
  pub signers : m.signers < 2 ^ 64
  pub sent : m.sent.0 < 2 ^ 64

-- ---- a flight changes

-- what three words of 0 hold
abbrev pub no_message : Message
no_message = message_of 0 0 0

-- the first message with these names, or the number of messages where none has them
unfoldable pub index_of : Names → List Message → ℕ
index_of x [] = 0
index_of x (m ∷ ms) = pick (named x m) 0 (suc (index_of x ms))

-- the place `near` where the message there has these names, else the first message with them
unfoldable pub near_or : ℕ → Names → List Message → ℕ
near_or near x ms = pick (ltb near (length ms) && named x (get_or ms near no_message)) near (index_of x ms)

-- the notes t, with k messages of the words from place `from` on noted: at the last nine bits of its first word, which are
-- sender, recipient and kind, stands where a message lies
unfoldable pub places_to : List ℕ → ℕ → ℕ → List ℕ → List ℕ
places_to l from zero t = t
places_to l from (suc k) t = set (places_to l from k t) (get_or l (3 * (from + k)) 0 % 512) (from + k)

-- the i-th message taken out, and the last one put in its place
unfoldable pub without : ℕ → List Message → List Message
without i ms = take (length ms - 1) (set ms i (get_or ms (length ms - 1) no_message))

-- the same message to station k
abbrev pub toward : Message → ℕ → Message
toward m k = record { sender = m.sender; recipient = k; round = m.round; kind = m.kind; signers = m.signers; sent = m.sent }

-- the message to each station below k in the mask, in rising order
unfoldable pub sent_to : Message → ℕ → ℕ → List Message
sent_to m zero mask = []
sent_to m (suc k) mask = sent_to m k mask ++ pick (has mask k) (toward m k ∷ []) []

-- ---- questions

-- some member has p
unfoldable pub some_of : {A : Type 0} → (A → Bool) → List A → Bool
some_of p [] = false
some_of p (a ∷ l) = p a || some_of p l

-- sent so long ago that at this time it is past the longest wait
unfoldable pub late : ℕ → ℕ → Message → Bool
late time wait m = ltb (m.sent.0 + wait) time

-- some message was sent so long ago
abbrev pub overdue : ℕ → ℕ → List Message → Bool
overdue time wait ms = some_of (late time wait) ms

-- some two messages, at different places, agree in all four names
unfoldable pub twins : List Message → Bool
twins [] = false
twins (m ∷ ms) = some_of (same_names m) ms || twins ms

-- ---- answers

-- a change that is made lays the new list over the words; one that is refused leaves every word as it was
abbrev pub after : Bool → List ℕ → List Message → List ℕ
after ok l ms = pick ok (coded l ms) l

-- whether the change was made, and how many messages there are then
pub record Answer : Type 0 where
  pub done : Bool
  pub count : ℕ

abbrev pub answer : Bool → ℕ → List Message → Answer
answer ok n ms = record { done = ok; count = pick ok (length ms) n }

-- as a function gives it that changes a flight of n messages: how many there are then, or none where it refuses
abbrev pub answer_of : ℕ → Option ℕ → Answer
answer_of n (Some k) = record { done = true; count = k }
answer_of n None = record { done = false; count = n }

-- the i-th of n messages can be taken out
unfoldable pub can_take : ℕ → List ℕ → ℕ → Bool
can_take n l i = holds n l && ltb i n

-- the message can be sent to each station below k in the mask, n messages standing: a word holds its names, and there is room
unfoldable pub can_send : ℕ → List ℕ → Message → ℕ → ℕ → Bool
can_send n l m k mask = packs m.sender m.round m.kind && holds (n + length (sent_to m k mask)) l
