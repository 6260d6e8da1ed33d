-- The round trip, both ways. What is written reads back as the same setup and events, to the same place (`script-back`);
-- and a script that reads through is written again as the same bytes (`script-again`). Each layer says what stands at a
-- place of the bytes, and where the next layer begins.
use Prim.Native.Nat.{ℕ, zero, suc, ◌+◌, ◌-◌, ◌^◌, ◌<◌, ◌≤◌}
use Rattle.std.specs.Prelude.{Bool, ◌||◌, not, eqb, get_or, take}
use Rattle.std.proofs.Math.Bool.{true, false}
use mathlib.Core.List.{List, [], ◌∷◌, ◌++◌, append_assoc, append-nil}
use Rattle.std.proofs.Math.Path.{◌≡◌, refl, ap, sym}
use Rattle.std.proofs.Common.{ap₂, subst, ◌∙◌, arith, length-append, length-drop, take-append-drop, drop_of_length-le, drop-drop, length-take-le, le-leb, leb-true, eqb-true}
use Rattle.std.proofs.Math.Dec.{leb}
use Rattle.std.proofs.Math.ListN.{length, drop}
use Rattle.std.proofs.Math.Seq.{drop-append_seam}
use Rattle.std.proofs.lemmas.Bool.{lt-leb, not-false}
use Rattle.clock.specs.Limits.{max_stations, max_advance}
use Rattle.clock.specs.Pick.{pick}
use Rattle.clock.specs.Tests.{outside, neither, not-outside}
use Rattle.setup.specs.declared.Plan.{Plan}
use Rattle.setup.specs.Setup.{setup_answer}
use Rattle.setup.specs.Laws.{planned, accepted}
use Rattle.event.specs.declared.Event.{Event}
use Rattle.event.specs.declared.Event.TheVariants.{Advance, Deliver, Send}
use Rattle.event.specs.Event.{barred, bad_advance}
use Rattle.number.specs.Number.{Number, Value, Refused}
use Rattle.number.specs.Number.{read_number, number_bytes, bytes_of}
use Rattle.number.proofs.Laws.{number-length, bytes-append, rows-length}
use Rattle.number.proofs.RoundTrip.{number-back, number-again}
use Rattle.script.specs.Read.{on_number, Many, many, stopped, and_many, read_many, plan_of, Setup, setup, no_setup, with_first, with_plan, setup_from, read_setup, Happening, event, no_event, with_increments, deliver_from, send_from, advance_from, event_from, read_event}
use Rattle.script.specs.Write.{plan_numbers, setup_numbers, event_numbers}
use Rattle.script.specs.Script.{Entry, Script, entries_bytes, script_bytes, Entries, through, torn, and_entry, on_event, read_entries, whole, with_entries, on_setup, read_script}

-- ---- what stands at a place

-- from a place of s on stand the bytes `tail`
pub record Stands (s : List ℕ) (at : ℕ) (tail : List ℕ) : Type 0 where
  pub within : at ≤ length s
  pub is : drop at s ≡ tail

stands-start : (s : List ℕ) → Stands s 0 s
stands-start s = record { within = omega arith; is = refl }

module _ (s : List ℕ) (at : ℕ) (xs tail : List ℕ) (h : Stands s at (xs ++ tail)) where
  stands-next : Stands s (at + length xs) tail
  stands-next =
      let long : length s - at ≡ length xs + length tail =
      sym (length-drop at s) ∙ ap length h.is ∙ length-append xs tail
      in
      record {
        within = omega (arith, h.within);
        is = sym (drop-drop (length xs) at s) ∙ ap (drop (length xs)) h.is ∙ drop-append_seam xs tail;
      }

  stands-length : at + length xs ≤ length s
  stands-length = stands-next.within

-- ---- what is written reads back

-- numbers that a word holds
pub data Words : List ℕ → Type 0 where
  none : Words []
  more : {v : ℕ} {vs : List ℕ} → v < 2 ^ 64 → Words vs → Words (v ∷ vs)

number_at : (s : List ℕ) (at v : ℕ) (tail : List ℕ) → Stands s at (number_bytes v ++ tail) → v < 2 ^ 64
    → read_number s at ≡ Value v (at + length (number_bytes v))
number_at s at v tail h small =
    let front : length (take at s) ≡ at = length-take-le at s h.within in
    let e : s ≡ take at s ++ (number_bytes v ++ tail) = sym (take-append-drop at s) ∙ ap (λ (l : List ℕ). take at s ++ l) h.is in
    ap₂ read_number e (sym front) ∙ number-back v (take at s) tail small ∙ ap (λ (k : ℕ). Value v (k + length (number_bytes v))) front

many-at : (vs : List ℕ) (s : List ℕ) (at : ℕ) (tail : List ℕ) → Words vs → Stands s at (bytes_of vs ++ tail)
    → read_many (length vs) s at ≡ many vs (at + length (bytes_of vs))
unfolding read_many bytes_of
many-at [] s at tail none h = ap (many []) (omega arith)
many-at (v ∷ vs) s at tail (more small w) h =
    let h' : Stands s at (number_bytes v ++ (bytes_of vs ++ tail)) =
    record { within = h.within; is = h.is ∙ append_assoc (number_bytes v) (bytes_of vs) tail }
    in
    rw (number_at s at v (bytes_of vs ++ tail) h' small)
    (ap (and_many v) (many-at vs s (at + length (number_bytes v)) tail w (stands-next s at (number_bytes v) (bytes_of vs ++ tail) h'))
    ∙ ap (many (v ∷ vs)) (rw length-append (omega arith)))

-- numbers one behind the other: the first of them, and then the others
rows : (vs ws : List ℕ) (s : List ℕ) (at : ℕ) (tail : List ℕ) → Stands s at (bytes_of (vs ++ ws) ++ tail)
    → Stands s at (bytes_of vs ++ (bytes_of ws ++ tail))
rows vs ws s at tail h = record {
  within = h.within;
  is = h.is ∙ ap (λ (l : List ℕ). l ++ tail) (bytes-append vs ws) ∙ append_assoc (bytes_of vs) (bytes_of ws) tail;
}

-- one number alone
one_at : (s : List ℕ) (at v : ℕ) (tail : List ℕ) → Stands s at (bytes_of (v ∷ []) ++ tail) → v < 2 ^ 64
    → read_number s at ≡ Value v (at + length (bytes_of (v ∷ [])))
unfolding bytes_of
one_at s at v tail h small =
    let e : number_bytes v ++ [] ≡ number_bytes v = append-nil (number_bytes v) in
    rw e (number_at s at v tail (record { within = h.within; is = h.is ∙ ap (λ (l : List ℕ). l ++ tail) e }) small)

-- the seven numbers of a plan behind its n
abbrev named : Plan → List ℕ
named s = s.faults ∷ s.drift ∷ s.bound ∷ s.spread ∷ s.step ∷ s.period ∷ s.faulty ∷ []

words_tail : {v : ℕ} {vs : List ℕ} → Words (v ∷ vs) → Words vs
words_tail (more small w) = w

words-head : {v : ℕ} {vs : List ℕ} → Words (v ∷ vs) → v < 2 ^ 64
words-head (more small w) = small

-- a setup whose n is in its limits and that has n first readings
setup-at : (plan : Plan) (first : List ℕ) (s : List ℕ) (at : ℕ) (tail : List ℕ) → outside 1 max_stations plan.stations ≡ false
    → length first ≡ plan.stations → Words (plan_numbers plan) → Words first → Stands s at (bytes_of (setup_numbers plan first) ++ tail)
    → read_setup s at ≡ setup plan first (at + length (bytes_of (setup_numbers plan first)))
unfolding read_setup setup_from setup_numbers plan_of
setup-at plan first s at tail inside long w wf h =
    let n : ℕ = plan.stations in
    let a : Stands s at (bytes_of (n ∷ []) ++ (bytes_of (named plan ++ first) ++ tail)) = rows (n ∷ []) (named plan ++ first) s at tail h in
    let p : ℕ = at + length (bytes_of (n ∷ [])) in
    let b : Stands s p (bytes_of (named plan) ++ (bytes_of first ++ tail)) =
    rows (named plan) first s p tail (stands-next s at (bytes_of (n ∷ [])) (bytes_of (named plan ++ first) ++ tail) a)
    in
    let q : ℕ = p + length (bytes_of (named plan)) in
    let d : Stands s q (bytes_of first ++ tail) = stands-next s p (bytes_of (named plan)) (bytes_of first ++ tail) b in
    let e : read_number s at ≡ Value n p = one_at s at n (bytes_of (named plan ++ first) ++ tail) a (words-head w) in
    let f : read_many 7 s p ≡ many (named plan) q = many-at (named plan) s p (bytes_of first ++ tail) (words_tail w) b in
    let g : read_many n s q ≡ many first (q + length (bytes_of first)) = ap (λ (k : ℕ). read_many k s q) (sym long) ∙ many-at first s q tail wf d in
    rw (e, inside, f, g) (ap (setup plan first) (omega (arith, rows-length (n ∷ []) (named plan ++ first), rows-length (named plan) first)))

-- an event of n stations as a script holds it: n increments for an advance, none for a message, and numbers that a word
-- holds
pub data Shaped (n : ℕ) : Entry → Type 0 where
  advance : {d : ℕ} {increments : List ℕ} → length increments ≡ n → Words (event_numbers (Advance d) increments)
      → Shaped n (record { event = Advance d; increments = increments })
  deliver : {sender recipient round kind : ℕ} → Words (event_numbers (Deliver sender recipient round kind) [])
      → Shaped n (record { event = Deliver sender recipient round kind; increments = [] })
  send : {sender recipient round signers : ℕ} → Words (event_numbers (Send sender recipient round signers) [])
      → Shaped n (record { event = Send sender recipient round signers; increments = [] })

-- the bytes of an entry
abbrev entry_bytes : Entry → List ℕ
entry_bytes e = bytes_of (event_numbers e.event e.increments)

-- a kind and the four numbers of a message
record Message (s : List ℕ) (at kind : ℕ) (vs : List ℕ) : Type 0 where
  leads : read_number s at ≡ Value kind (at + length (bytes_of (kind ∷ [])))
  numbers : read_many 4 s (at + length (bytes_of (kind ∷ []))) ≡ many vs (at + length (bytes_of (kind ∷ vs)))

message-at : (kind : ℕ) (vs : List ℕ) → length vs ≡ 4 → (s : List ℕ) (at : ℕ) (tail : List ℕ) → Words (kind ∷ vs)
    → Stands s at (bytes_of (kind ∷ vs) ++ tail) → Message s at kind vs
message-at kind vs four s at tail w h =
    let a : Stands s at (bytes_of (kind ∷ []) ++ (bytes_of vs ++ tail)) = rows (kind ∷ []) vs s at tail h in
    let p : ℕ = at + length (bytes_of (kind ∷ [])) in
    record {
      leads = one_at s at kind (bytes_of vs ++ tail) a (words-head w);
      numbers =
          ap (λ (k : ℕ). read_many k s p) (sym four)
          ∙ many-at vs s p tail (words_tail w) (stands-next s at (bytes_of (kind ∷ [])) (bytes_of vs ++ tail) a)
          ∙ ap (many vs) (omega (arith, rows-length (kind ∷ []) vs));
    }

event-at : (n : ℕ) (e : Entry) (s : List ℕ) (at : ℕ) (tail : List ℕ) → outside 1 max_stations n ≡ false → Shaped n e
    → Stands s at (entry_bytes e ++ tail) → read_event n s at ≡ event e.event e.increments (at + length (entry_bytes e))
unfolding read_event event_from advance_from event_numbers
event-at n e s at tail inside (advance {d = d} {increments = incs} long w) h =
    let a : Stands s at (bytes_of (1 ∷ []) ++ (bytes_of (d ∷ incs) ++ tail)) = rows (1 ∷ []) (d ∷ incs) s at tail h in
    let p : ℕ = at + length (bytes_of (1 ∷ [])) in
    let b : Stands s p (bytes_of (d ∷ []) ++ (bytes_of incs ++ tail)) =
    rows (d ∷ []) incs s p tail (stands-next s at (bytes_of (1 ∷ [])) (bytes_of (d ∷ incs) ++ tail) a)
    in
    let q : ℕ = p + length (bytes_of (d ∷ [])) in
    let k : Stands s q (bytes_of incs ++ tail) = stands-next s p (bytes_of (d ∷ [])) (bytes_of incs ++ tail) b in
    let f : read_number s at ≡ Value 1 p = one_at s at 1 (bytes_of (d ∷ incs) ++ tail) a (words-head w) in
    let g : read_number s p ≡ Value d q = one_at s p d (bytes_of incs ++ tail) b (words-head (words_tail w)) in
    let i : read_many n s q ≡ many incs (q + length (bytes_of incs)) =
    ap (λ (k : ℕ). read_many k s q) (sym long) ∙ many-at incs s q tail (words_tail (words_tail w)) k
    in
    rw (inside, f, g, i) (ap (event (Advance d) incs) (omega (arith, rows-length (1 ∷ []) (d ∷ incs), rows-length (d ∷ []) incs)))
event-at n e s at tail inside (deliver {sender = x} {recipient = y} {round = z} {kind = k} w) h =
    let m = message-at 2 (x ∷ y ∷ z ∷ k ∷ []) refl s at tail w h in
    rw (inside, m.leads, m.numbers) refl
event-at n e s at tail inside (send {sender = x} {recipient = y} {round = z} {signers = k} w) h =
    let m = message-at 3 (x ∷ y ∷ z ∷ k ∷ []) refl s at tail w h in
    rw (inside, m.leads, m.numbers) refl

-- so is each of several, to the end of the bytes
data ShapedAll (n : ℕ) : List Entry → Type 0 where
  none : ShapedAll n []
  more : {e : Entry} {es : List Entry} → Shaped n e → ShapedAll n es → ShapedAll n (e ∷ es)

entry_length : (e : Entry) → 1 ≤ length (entry_bytes e)
unfolding event_numbers bytes_of
entry_length e = go e.event e.increments
  where
    some_byte : (v : ℕ) (vs : List ℕ) → 1 ≤ length (bytes_of (v ∷ vs))
    some_byte v vs = rw length-append (omega (arith, number-length v))

    go : (ev : Event) (increments : List ℕ) → 1 ≤ length (bytes_of (event_numbers ev increments))
    go (Advance d) increments = some_byte 1 (d ∷ increments)
    go (Deliver x y z k) increments = some_byte 2 (x ∷ y ∷ z ∷ k ∷ [])
    go (Send x y z k) increments = some_byte 3 (x ∷ y ∷ z ∷ k ∷ [])

entries_at : (n : ℕ) (es : List Entry) (most : ℕ) (s : List ℕ) (at : ℕ) → outside 1 max_stations n ≡ false → ShapedAll n es
    → Stands s at (entries_bytes es) → length (entries_bytes es) ≤ most → read_entries most n s at ≡ through es
unfolding read_entries entries_bytes
entries_at n [] most s at inside none h enough = go most
  where
    over : length s ≤ at
    over = let long : length s - at ≡ 0 = sym (length-drop at s) ∙ ap length h.is in omega arith

    go : (most : ℕ) → read_entries most n s at ≡ through []
    go zero = simp (le-leb _ _ over)
    go (suc most) = simp (le-leb _ _ over)
entries_at n (e ∷ es) zero s at inside (more shaped rest) h enough =
    absurd (omega (arith, entry_length e, length-append (entry_bytes e) (entries_bytes es)))
entries_at n (e ∷ es) (suc most) s at inside (more shaped rest) h enough =
    let long : at + length (entry_bytes e) ≤ length s = stands-length s at (entry_bytes e) (entries_bytes es) h in
    rw (lt-leb (length s) at (omega (arith, entry_length e)), event-at n e s at (entries_bytes es) inside shaped h)
    (ap (and_entry e)
    (entries_at n es most s (at + length (entry_bytes e)) inside rest (stands-next s at (entry_bytes e) (entries_bytes es) h)
    (omega (arith, entry_length e, length-append (entry_bytes e) (entries_bytes es)))))

-- ---- what the writer takes

-- a message has no increments
abbrev pub Plain : Event → List ℕ → Type 0
Plain (Advance d) increments = Unit {0}
Plain (Deliver sender recipient round kind) increments = increments ≡ []
Plain (Send sender recipient round signers) increments = increments ≡ []

-- events that 11 does not bar, of numbers that a word holds
pub data Unbarred (n faulty : ℕ) : List Entry → Type 0 where
  none : Unbarred n faulty []
  more : {e : Entry} {es : List Entry} → barred n faulty e.event e.increments ≡ false → Plain e.event e.increments
      → Words (event_numbers e.event e.increments) → Unbarred n faulty es → Unbarred n faulty (e ∷ es)

-- a setup that passes and events that are not barred, of numbers that a word holds
pub record Writable (x : Script) : Type 0 where
  pub passes : setup_answer x.plan x.first ≡ 0
  pub plan : Words (plan_numbers x.plan)
  pub first : Words x.first
  pub entries : Unbarred x.plan.stations x.plan.faulty x.entries

shaped-event : (n faulty : ℕ) (ev : Event) (increments : List ℕ) → barred n faulty ev increments ≡ false → Plain ev increments
    → Words (event_numbers ev increments) → Shaped n (record { event = ev; increments = increments })
unfolding barred bad_advance
shaped-event n faulty (Advance d) increments e plain w =
    let a = neither (outside 1 max_advance d || not (eqb (length increments) n)) _ e in
    let b = neither (outside 1 max_advance d) (not (eqb (length increments) n)) a.0 in
    advance (eqb-true (length increments) n (not-false _ b.1)) w
shaped-event n faulty (Deliver x y z k) increments e plain w = rw plain (deliver (rw plain at w))
shaped-event n faulty (Send x y z k) increments e plain w = rw plain (send (rw plain at w))

shaped-all : (n faulty : ℕ) (es : List Entry) → Unbarred n faulty es → ShapedAll n es
shaped-all n faulty [] none = none
shaped-all n faulty (e ∷ es) (more unbarred plain w rest) =
    more (shaped-event n faulty e.event e.increments unbarred plain w) (shaped-all n faulty es rest)

-- what is written reads back as the same setup and events, to the end
pub script-back : (x : Script) → Writable x → read_script (script_bytes x) ≡ whole x
unfolding read_script script_bytes
script-back x w =
    let a = accepted x.plan x.first w.passes in
    let p = planned x.plan a.0 in
    let inside : outside 1 max_stations x.plan.stations ≡ false =
    not-outside 1 max_stations x.plan.stations p.stations.0 p.stations.1
    in
    let s : List ℕ = script_bytes x in
    let front : List ℕ = bytes_of (setup_numbers x.plan x.first) in
    rw (setup-at x.plan x.first s 0 (entries_bytes x.entries) inside a.1 w.plan w.first (stands-start s))
    (ap (with_entries x.plan x.first)
    (entries_at x.plan.stations x.entries (length s) s (0 + length front) inside (shaped-all _ _ _ w.entries)
    (stands-next s 0 front (entries_bytes x.entries) (stands-start s)) (omega (arith, length-append front (entries_bytes x.entries)))))

-- ---- what reads is written so

-- bytes are below 256
pub record Bytes (s : List ℕ) : Type 0 where
  pub byte : (i : ℕ) → get_or s i 0 < 256

-- from `at` to `next` stand these bytes
record Between (s : List ℕ) (at next : ℕ) (bytes : List ℕ) : Type 0 where
  is : drop at s ≡ bytes ++ drop next s
  inside : next ≤ length s

between-on : {s : List ℕ} {at next behind : ℕ} (xs ys : List ℕ) → Between s at next xs → Between s next behind ys
    → Between s at behind (xs ++ ys)
between-on {s} {behind = behind} xs ys a b = record {
  is = a.is ∙ ap (λ (l : List ℕ). xs ++ l) b.is ∙ sym (append_assoc xs ys (drop behind s));
  inside = b.inside;
}

-- a plan's numbers are n and the seven behind it
plan-row : (n : ℕ) (vs : List ℕ) → length vs ≡ 7 → plan_numbers (plan_of n vs) ≡ n ∷ vs
unfolding plan_of
plan-row n (a ∷ b ∷ c ∷ d ∷ e ∷ f ∷ g ∷ []) h = refl
plan-row n [] h = absurd (omega arith)
plan-row n (a ∷ []) h = absurd (omega arith)
plan-row n (a ∷ b ∷ []) h = absurd (omega arith)
plan-row n (a ∷ b ∷ c ∷ []) h = absurd (omega arith)
plan-row n (a ∷ b ∷ c ∷ d ∷ []) h = absurd (omega arith)
plan-row n (a ∷ b ∷ c ∷ d ∷ e ∷ []) h = absurd (omega arith)
plan-row n (a ∷ b ∷ c ∷ d ∷ e ∷ f ∷ []) h = absurd (omega arith)
plan-row n (a ∷ b ∷ c ∷ d ∷ e ∷ f ∷ g ∷ x ∷ vs) h = absurd (omega arith)

setup-bytes : (n : ℕ) (vs first : List ℕ) → length vs ≡ 7
    → bytes_of (setup_numbers (plan_of n vs) first) ≡ number_bytes n ++ (bytes_of vs ++ bytes_of first)
unfolding setup_numbers bytes_of
setup-bytes n vs first h =
    ap (λ (l : List ℕ). bytes_of (l ++ first)) (plan-row n vs h) ∙ ap (λ (l : List ℕ). number_bytes n ++ l) (bytes-append vs first)

-- a message's four numbers
four-row : (kind : ℕ) (vs : List ℕ) → length vs ≡ 4
    → kind ∷ get_or vs 0 0 ∷ get_or vs 1 0 ∷ get_or vs 2 0 ∷ get_or vs 3 0 ∷ [] ≡ kind ∷ vs
four-row kind (a ∷ b ∷ c ∷ d ∷ []) h = refl
four-row kind [] h = absurd (omega arith)
four-row kind (a ∷ []) h = absurd (omega arith)
four-row kind (a ∷ b ∷ []) h = absurd (omega arith)
four-row kind (a ∷ b ∷ c ∷ []) h = absurd (omega arith)
four-row kind (a ∷ b ∷ c ∷ d ∷ e ∷ vs) h = absurd (omega arith)

module _ (s : List ℕ) (b : Bytes s) where
  -- so many numbers stand there
  record Numbers (k at : ℕ) (vs : List ℕ) (next : ℕ) : Type 0 where
    long : length vs ≡ k
    stand : Between s at next (bytes_of vs)

  number-once : (at v next : ℕ) → read_number s at ≡ Value v next → Between s at next (number_bytes v)
  number-once at v next e = let n = number-again s at v next b.byte e in record { is = n.bytes; inside = n.inside }

  many-again : (k at : ℕ) (vs : List ℕ) (next : ℕ) → at ≤ length s → read_many k s at ≡ many vs next → Numbers k at vs next
  unfolding read_many bytes_of
  many-again zero at vs next h e =
      let v : [] ≡ vs = cc in
      let n : at ≡ next = cc in
      rw (← v, ← n) (record { long = refl; stand = record { is = refl; inside = h } })
  many-again (suc k) at vs next h e = go (read_number s at) refl e (many-again k)
    where
      on : (v p : ℕ) → read_number s at ≡ Value v p → (m : Many) → read_many k s p ≡ m → and_many v m ≡ many vs next
          → ((ws : List ℕ) (q : ℕ) → read_many k s p ≡ many ws q → Numbers k p ws q) → Numbers (suc k) at vs next
      on v p f (many ws q) g i rest =
          let r = rest ws q g in
          let same : (v ∷ ws) ≡ vs = cc in
          let behind : q ≡ next = cc in
          rw (← same, ← behind)
          (record { long = ap suc r.long; stand = between-on (number_bytes v) (bytes_of ws) (number-once at v p f) r.stand })
      on v p f (stopped number) g i rest = let z : ◌≡◌ {A = ℕ} 0 1 = cc in absurd (omega arith)

      go : (r : Number) → read_number s at ≡ r → on_number r (λ v next. and_many v (read_many k s next)) stopped ≡ many vs next
          → ((at : ℕ) (vs : List ℕ) (next : ℕ) → at ≤ length s → read_many k s at ≡ many vs next → Numbers k at vs next)
          → Numbers (suc k) at vs next
      go (Value v p) f g rest = on v p f (read_many k s p) refl g (λ ws q. rest p ws q (number-once at v p f).inside)
      go (Refused number) f g rest = let z : ◌≡◌ {A = ℕ} 0 1 = cc in absurd (omega arith)

  -- n, the seven numbers behind it, and the first readings
  setup-parts : (n : ℕ) (vs first : List ℕ) (at p q next : ℕ) → Between s at p (number_bytes n) → Numbers 7 p vs q
      → Between s q next (bytes_of first) → Between s at next (bytes_of (setup_numbers (plan_of n vs) first))
  setup-parts n vs first at p q next one seven rest =
      rw (setup-bytes n vs first seven.long) (between-on (number_bytes n) (bytes_of vs ++ bytes_of first) one
      (between-on (bytes_of vs) (bytes_of first) seven.stand rest))

  setup-again : (at : ℕ) (plan : Plan) (first : List ℕ) (next : ℕ) → read_setup s at ≡ setup plan first next
      → Between s at next (bytes_of (setup_numbers plan first))
  unfolding read_setup setup_from
  setup-again at plan first next e = go (read_number s at) refl e
    where
      done : {A : Type 0} (number : ℕ) → no_setup number ≡ setup plan first next → A
      done number g = let z : ◌≡◌ {A = ℕ} 0 1 = cc in absurd (omega arith)

      last : (n p q : ℕ) (vs : List ℕ) → Between s at p (number_bytes n) → Numbers 7 p vs q → (m : Many) → read_many n s q ≡ m
          → with_first n vs m ≡ setup plan first next → Between s at next (bytes_of (setup_numbers plan first))
      last n p q vs one seven (many fs r) f g =
          let same : plan_of n vs ≡ plan = cc in
          let readings : fs ≡ first = cc in
          let behind : r ≡ next = cc in
          rw (← same, ← readings, ← behind)
          (setup-parts n vs fs at p q r one seven (many-again n q fs r seven.stand.inside f).stand)
      last n p q vs one seven (stopped number) f g = done number g

      plans : (n p : ℕ) → Between s at p (number_bytes n) → (m : Many) → read_many 7 s p ≡ m → with_plan s n m ≡ setup plan first next
          → Between s at next (bytes_of (setup_numbers plan first))
      plans n p one (many vs q) f g = last n p q vs one (many-again 7 p vs q one.inside f) (read_many n s q) refl g
      plans n p one (stopped number) f g = done number g

      limits : (n p : ℕ) → Between s at p (number_bytes n) → (o : Bool) → pick o (no_setup 1) (with_plan s n (read_many 7 s p)) ≡ setup plan first next
          → Between s at next (bytes_of (setup_numbers plan first))
      limits n p one true g = done 1 g
      limits n p one false g = plans n p one (read_many 7 s p) refl g

      go : (r : Number) → read_number s at ≡ r → on_number r (setup_from s) no_setup ≡ setup plan first next
          → Between s at next (bytes_of (setup_numbers plan first))
      go (Value n p) f g = limits n p (number-once at n p f) (outside 1 max_stations n) g
      go (Refused number) f g = done number g

  event-again : (n at : ℕ) (ev : Event) (increments : List ℕ) (next : ℕ) → read_event n s at ≡ event ev increments next
      → Between s at next (bytes_of (event_numbers ev increments))
  unfolding read_event event_from advance_from event_numbers bytes_of
  event-again n at ev increments next e = limits (outside 1 max_stations n) e
    where
      Goal : Type 0
      Goal = Between s at next (bytes_of (event_numbers ev increments))

      done : (number : ℕ) → no_event number ≡ event ev increments next → Goal
      done number g = let z : ◌≡◌ {A = ℕ} 0 1 = cc in absurd (omega arith)

      fits : (same : Event) (incs : List ℕ) (q : ℕ) → event same incs q ≡ event ev increments next
          → Between s at q (bytes_of (event_numbers same incs)) → Goal
      fits same incs q g h =
          let x : same ≡ ev = cc in
          let y : incs ≡ increments = cc in
          let z : q ≡ next = cc in
          rw (← x, ← y, ← z) h

      four : (kind p : ℕ) → Between s at p (number_bytes kind) → (vs : List ℕ) (q : ℕ) → read_many 4 s p ≡ many vs q
          → Between s at q (bytes_of (kind ∷ get_or vs 0 0 ∷ get_or vs 1 0 ∷ get_or vs 2 0 ∷ get_or vs 3 0 ∷ []))
      four kind p one vs q f =
          let m = many-again 4 p vs q one.inside f in
          subst (λ (l : List ℕ). Between s at q (bytes_of l)) (sym (four-row kind vs m.long))
          (between-on (number_bytes kind) (bytes_of vs) one m.stand)

      advances : (p : ℕ) → Between s at p (number_bytes 1) → (r : Number) → read_number s p ≡ r
          → on_number r (λ d next. with_increments d (read_many n s next)) no_event ≡ event ev increments next → Goal
      advances p one (Refused number) f g = done number g
      advances p one (Value d q) f g = incs (read_many n s q) refl g
        where
          incs : (m : Many) → read_many n s q ≡ m → with_increments d m ≡ event ev increments next → Goal
          incs (stopped number) h i = done number i
          incs (many vs r) h i =
              let two = number-once p d q f in
              let m = many-again n q vs r two.inside h in
              fits (Advance d) vs r i
              (between-on (number_bytes 1) (number_bytes d ++ bytes_of vs) one (between-on (number_bytes d) (bytes_of vs) two m.stand))

      delivers : (p : ℕ) → Between s at p (number_bytes 2) → (m : Many) → read_many 4 s p ≡ m → deliver_from m ≡ event ev increments next → Goal
      delivers p one (many vs q) f g = fits (Deliver (get_or vs 0 0) (get_or vs 1 0) (get_or vs 2 0) (get_or vs 3 0)) [] q g (four 2 p one vs q f)
      delivers p one (stopped number) f g = done number g

      sends : (p : ℕ) → Between s at p (number_bytes 3) → (m : Many) → read_many 4 s p ≡ m → send_from m ≡ event ev increments next → Goal
      sends p one (many vs q) f g = fits (Send (get_or vs 0 0) (get_or vs 1 0) (get_or vs 2 0) (get_or vs 3 0)) [] q g (four 3 p one vs q f)
      sends p one (stopped number) f g = done number g

      kinds : (kind p : ℕ) → Between s at p (number_bytes kind) → (x y z : Bool) → eqb kind 1 ≡ x → eqb kind 2 ≡ y → eqb kind 3 ≡ z
          → pick x (advance_from n s p) (pick y (deliver_from (read_many 4 s p)) (pick z (send_from (read_many 4 s p)) (no_event 24))) ≡ event ev increments next
          → Goal
      kinds kind p one true y z f g h i = advances p (rw (eqb-true kind 1 f) at one) (read_number s p) refl i
      kinds kind p one false true z f g h i = delivers p (rw (eqb-true kind 2 g) at one) (read_many 4 s p) refl i
      kinds kind p one false false true f g h i = sends p (rw (eqb-true kind 3 h) at one) (read_many 4 s p) refl i
      kinds kind p one false false false f g h i = done 24 i

      go : (r : Number) → read_number s at ≡ r → on_number r (event_from n s) no_event ≡ event ev increments next → Goal
      go (Value kind p) f g = kinds kind p (number-once at kind p f) (eqb kind 1) (eqb kind 2) (eqb kind 3) refl refl refl g
      go (Refused number) f g = done number g

      limits : (o : Bool) → pick o (no_event 1) (on_number (read_number s at) (event_from n s) no_event) ≡ event ev increments next → Goal
      limits true g = done 1 g
      limits false g = go (read_number s at) refl g

  entries-again : (most n at : ℕ) (es : List Entry) → at ≤ length s → read_entries most n s at ≡ through es → drop at s ≡ entries_bytes es
  unfolding read_entries entries_bytes
  entries-again zero n at es h e = go (leb (length s) at) refl e
    where
      go : (o : Bool) → leb (length s) at ≡ o → pick o (through []) (torn 0) ≡ through es → drop at s ≡ entries_bytes es
      go true f g = let same : [] ≡ es = cc in rw (← same) (drop_of_length-le s (leb-true (length s) at f))
      go false f g = let z : ◌≡◌ {A = ℕ} 0 1 = cc in absurd (omega arith)
  entries-again (suc most) n at es h e = go (leb (length s) at) refl e (entries-again most n)
    where
      Rest : Type 0
      Rest = (at : ℕ) (es : List Entry) → at ≤ length s → read_entries most n s at ≡ through es → drop at s ≡ entries_bytes es

      last : (entry : Entry) (p : ℕ) → Between s at p (entry_bytes entry) → (r : Entries) → read_entries most n s p ≡ r
          → and_entry entry r ≡ through es → Rest → drop at s ≡ entries_bytes es
      last entry p stand (through fs) f g rest =
          let same : (entry ∷ fs) ≡ es = cc in
          rw (← same) (stand.is ∙ ap (λ (l : List ℕ). entry_bytes entry ++ l) (rest p fs stand.inside f))
      last entry p stand (torn number) f g rest = let z : ◌≡◌ {A = ℕ} 0 1 = cc in absurd (omega arith)

      on : (r : Happening) → read_event n s at ≡ r → on_event r (λ e next. and_entry e (read_entries most n s next)) torn ≡ through es
          → Rest → drop at s ≡ entries_bytes es
      on (event ev increments p) f g rest =
          last (record { event = ev; increments = increments }) p (event-again n at ev increments p f) (read_entries most n s p) refl g rest
      on (no_event number) f g rest = let z : ◌≡◌ {A = ℕ} 0 1 = cc in absurd (omega arith)

      go : (o : Bool) → leb (length s) at ≡ o
          → pick o (through []) (on_event (read_event n s at) (λ e next. and_entry e (read_entries most n s next)) torn) ≡ through es
          → Rest → drop at s ≡ entries_bytes es
      go true f g rest = let same : [] ≡ es = cc in rw (← same) (drop_of_length-le s (leb-true (length s) at f))
      go false f g rest = on (read_event n s at) refl g rest

  -- a script that reads through is written again as the same bytes
  pub script-again : (x : Script) → read_script s ≡ whole x → script_bytes x ≡ s
  unfolding read_script script_bytes
  script-again x e = go (read_setup s 0) refl e
    where
      last : (plan : Plan) (first : List ℕ) (next : ℕ) → Between s 0 next (bytes_of (setup_numbers plan first)) → (r : Entries)
          → read_entries (length s) plan.stations s next ≡ r → with_entries plan first r ≡ whole x → script_bytes x ≡ s
      last plan first next stand (through es) f g =
          let same : record { plan = plan; first = first; entries = es } ≡ x = cc in
          rw (← same)
          (ap (λ (l : List ℕ). bytes_of (setup_numbers plan first) ++ l) (sym (entries-again (length s) plan.stations next es stand.inside f))
          ∙ sym stand.is)
      last plan first next stand (torn number) f g = let z : ◌≡◌ {A = ℕ} 0 1 = cc in absurd (omega arith)

      go : (r : Setup) → read_setup s 0 ≡ r → on_setup s r ≡ whole x → script_bytes x ≡ s
      go (setup plan first next) f g =
          last plan first next (setup-again 0 plan first next f) (read_entries (length s) plan.stations s next) refl g
      go (no_setup number) f g = let z : ◌≡◌ {A = ℕ} 0 1 = cc in absurd (omega arith)
