-- What demand 3 needs of clocks and of messages, apart from each other. A course is a sequence of states; a station waits for a
-- round, and a step in which that number grows is a start. The clocks keep their laws whatever the messages are, and the
-- messages promise unforgeability, relay and correctness whatever the clocks are.
use Rattle.std.specs.Prelude.{ℕ, suc, ◌+◌, ◌*◌, ◌<◌, ◌≤◌, ◌≡◌}

-- ---- clocks

-- document 01's M, S, T, D, A, P, and three more that it sets to e = 0, W = T, c = 0; of each state the time, and of each
-- station the round that it waits for and what its clock reads
pub record Clocks : Type 1 where
  pub parts : ℕ
  pub rate : ℕ
  pub bound : ℕ
  pub spread : ℕ
  pub step : ℕ
  pub period : ℕ
  pub ticks : ℕ
  pub wait : ℕ
  pub slack : ℕ
  -- S·S - M·M
  pub excess : ℕ
  pub sound : ℕ → Type 0
  pub now : ℕ → ℕ
  pub waits : ℕ → ℕ → ℕ
  pub reads : ℕ → ℕ → ℕ
  -- time and rounds never fall, and a start takes no time
  pub later : (m : ℕ) → now m ≤ now (suc m)
  pub onward : (p : ℕ) → sound p → (m : ℕ) → waits p m ≤ waits p (suc m)
  pub at_once : (p : ℕ) → sound p → (m : ℕ) → waits p m < waits p (suc m) → now (suc m) ≡ now m
  -- a start of k sets the clock to k·P + A, or a little more; so does the beginning
  pub low : (p : ℕ) → sound p → (m k : ℕ) → waits p m < waits p (suc m) → waits p (suc m) ≡ suc k → k * period + step ≤ reads p (suc m)
  pub high : (p : ℕ) → sound p → (m k : ℕ) → waits p m < waits p (suc m) → waits p (suc m) ≡ suc k
      → parts * reads p (suc m) ≤ parts * (k * period + step) + rate * wait + parts * slack
  pub low_first : (p : ℕ) → sound p → (k : ℕ) → waits p 0 ≡ suc k → k * period + step ≤ reads p 0
  pub high-first : (p : ℕ) → sound p → (k : ℕ) → waits p 0 ≡ suc k → parts * reads p 0 ≤ parts * (k * period + step) + rate * wait + parts * slack
  -- no step passes the mark
  pub unpassed : (p : ℕ) → sound p → (m : ℕ) → waits p (suc m) ≡ waits p m → reads p m < waits p m * period → reads p (suc m) ≤ waits p m * period
  -- a clock is neither too fast nor too slow between any two states of one stretch
  pub fast : (p : ℕ) → sound p → (i j : ℕ) → i ≤ j → waits p i ≡ waits p j
      → parts * reads p j + rate * now i ≤ parts * reads p i + rate * now j + parts * ticks
  pub slow : (p : ℕ) → sound p → (i j : ℕ) → i ≤ j → waits p i ≡ waits p j
      → parts * now j + rate * reads p i ≤ parts * now i + rate * reads p j + rate * ticks
  -- one consequence of each rule of the setup
  pub some : 1 ≤ parts
  pub faster : parts ≤ rate
  pub excess-is : excess + parts * parts ≡ rate * rate
  pub gap : rate * wait + parts * (slack + ticks) + parts * step < parts * period
  pub steps : rate * (rate * (spread + ticks) + parts * bound) + parts * parts * ticks ≤ parts * parts * step
  pub spreads : excess * rate * period + excess * rate * ticks + excess * parts * bound + rate * rate * parts * wait
      + rate * parts * parts * (slack + 2 * ticks)
      ≤ rate * parts * parts * spread + excess * rate * step

module _ (𝓒 : Clocks) where
  -- if one waits for k and reads k·P or more, everybody waits for k or more
  unfoldable pub Shown : ℕ → Type 0
  Shown k =
      (p : ℕ) → 𝓒.sound p → (m : ℕ) → 𝓒.waits p m ≡ k → k * 𝓒.period ≤ 𝓒.reads p m → (q : ℕ) → 𝓒.sound q → k ≤ 𝓒.waits q m

  -- of every round up to k
  unfoldable pub ShownTo : ℕ → Type 0
  ShownTo k = (j : ℕ) → j ≤ k → Shown j

  -- p first waits for k + 1 in state s
  pub record First (p k s : ℕ) : Type 0 where
    pub here : 𝓒.waits p s ≡ suc k
    pub before : (r : ℕ) → r < s → 𝓒.waits p r ≤ k

  -- w holds k back by its state y: it had neither signed nor started k
  pub record HoldsBack (k w y m : ℕ) : Type 0 where
    pub waiting : 𝓒.waits w y ≤ k
    pub soon : 𝓒.now m ≤ 𝓒.now y + 𝓒.bound
    pub below : 𝓒.waits w y ≡ k
        → 𝓒.parts * 𝓒.now m + 𝓒.rate * 𝓒.reads w y ≤ 𝓒.parts * 𝓒.now y + 𝓒.rate * (k * 𝓒.period) + 𝓒.parts * 𝓒.bound

-- ---- messages

-- unforgeability: whoever has started k, one waited for k before and read k·P or more. Relay: once one has started k, nobody waits for k or less for longer than W. Correctness, said backwards: whoever waits for
-- k is held back by somebody
pub record Broadcast (𝓒 : Clocks) : Type 0 where
  pub unforgeability : (k : ℕ) → 1 ≤ k → (p : ℕ) → 𝓒.sound p → (m : ℕ) → k < 𝓒.waits p m
      → (w : ℕ) × 𝓒.sound w × ((y : ℕ) × (y < m) × (𝓒.waits w y ≡ k) × (k * 𝓒.period ≤ 𝓒.reads w y))
  pub relay : (k : ℕ) → ShownTo 𝓒 k → (p : ℕ) → 𝓒.sound p → (s : ℕ) → First 𝓒 p k s → (q : ℕ) → 𝓒.sound q → (t : ℕ) → s ≤ t → 𝓒.waits q t ≤ k
      → 𝓒.rate * 𝓒.now t + 𝓒.parts * 𝓒.reads p s
      ≤ 𝓒.rate * 𝓒.now s + 𝓒.rate * 𝓒.wait + 𝓒.parts * 𝓒.slack + 𝓒.parts * (k * 𝓒.period + 𝓒.step)
  pub correct : (k : ℕ) → 1 ≤ k → ShownTo 𝓒 k → (q : ℕ) → 𝓒.sound q → (m : ℕ) → 𝓒.waits q m ≡ k
      → ((w : ℕ) → 𝓒.sound w → (y : ℕ) → y ≤ m → HoldsBack 𝓒 k w y m → ⊥) → ⊥
