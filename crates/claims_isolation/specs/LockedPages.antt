-- Isolation of pages (02, L13 and L14): two pages whose trims differ only in bytes that each trim's state locks get equal replies, by either engine.
use Rattle.std.specs.Prelude.{◌≡◌, true, List, ℕ, ◌<◌, length, get_or}
use Rattle.machine.specs.declared.State.{State}
use Rattle.machine.specs.Machine.{reset, is_locked}
use Rattle.page.specs.Pages.{PageGiven, PageLeft, part, PageMeets}
use Rattle.claims.specs.Session.{Engine, stepper_of}
use Rattle.claims.specs.Saved.{range_of}
use Rattle.claims_pages.specs.Pages.{AcceptedPage}
use Rattle.claims_isolation.specs.Locked.{Differ}

-- the trims' memories, joined: each trim's differ only in bytes that its own state locks
pub record DifferEach (count : ℕ) (states : List State) (D E : List ℕ) : Type 0 where
  pub long : length D ≡ length E
  pub each : (k : ℕ) → k < count → Differ (get_or states k reset) (part 65536 k D) (part 65536 k E)

pub record ApartPages (g₁ g₂ : PageGiven) : Type 0 where
  pub states : g₁.states ≡ g₂.states
  pub count : g₁.count ≡ g₂.count
  pub programs : g₁.P ≡ g₂.P
  pub memories : DifferEach g₁.count g₁.states g₁.D g₂.D
  pub inputs : g₁.I ≡ g₂.I
  pub outputs : g₁.O ≡ g₂.O
  pub budget : g₁.budget ≡ g₂.budget
  pub log : g₁.log ≡ g₂.log

-- what two pages of this many trims reply and leave: all but the memories is equal
pub record SamePages (count : ℕ) (l₁ l₂ : PageLeft) : Type 0 where
  pub reply : l₁.reply ≡ l₂.reply
  pub states : l₁.states ≡ l₂.states
  pub answers : l₁.answers ≡ l₂.answers
  pub programs : l₁.P ≡ l₂.P
  pub memories : DifferEach count l₁.states l₁.D l₂.D
  pub inputs : l₁.I ≡ l₂.I
  pub outputs : l₁.O ≡ l₂.O
  pub log : l₁.log ≡ l₂.log

-- two accepted pages that differ in a locked byte
pub record TwoPages : Type 0 where
  pub one : PageGiven
  pub two : PageGiven
  pub apart : ApartPages one two
  pub accepts : AcceptedPage one
  pub accepts_two : AcceptedPage two
  pub differ : one.D ≡ two.D → ⊥

pub record IsolatedPages : Type 0 where
  -- Each page known by its contract alone, accepted or refused.
  pub pages :
      (e₁ e₂ : Engine) (g₁ g₂ : PageGiven) → ApartPages g₁ g₂
      → (l₁ l₂ : PageLeft) → PageMeets (stepper_of e₁) g₁ l₁ → PageMeets (stepper_of e₂) g₂ l₂ → SamePages g₁.count l₁ l₂
  -- Not empty.
  pub two_pages : TwoPages
  -- A page leaves every trim's range as it is, and those of the states past the trims,
  pub page_range :
      (e : Engine) (g : PageGiven) (l : PageLeft) → PageMeets (stepper_of e) g l
      → (k : ℕ) → range_of (get_or l.states k reset) ≡ range_of (get_or g.states k reset)
  -- and every locked byte of each trim.
  pub page_locked :
      (e : Engine) (g : PageGiven) (l : PageLeft) → PageMeets (stepper_of e) g l
      → (k : ℕ) → k < g.count → (a : ℕ) → is_locked a (get_or g.states k reset) ≡ true
      → get_or (part 65536 k l.D) a 0 ≡ get_or (part 65536 k g.D) a 0
