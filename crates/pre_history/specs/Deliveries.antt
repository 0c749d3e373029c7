-- What deliveries say of the frames that were sent, and that frames come to rings of an arc once.
use Rattle.std.specs.Prelude.{ℕ, ◌<◌, ◌≤◌, ◌≡◌, ◌≢◌, false, List, length, All, AllPairs, Contains}
use Rattle.pre_history.specs.Scenario.{Scenario, send, FrameOf}
use Rattle.pre_history.specs.History.{History}
use Rattle.pre_history.specs.Selected.{what_is}
use Rattle.pre_history.specs.Queries.{Begins, Entries, Deliveries}
use Rattle.pre_history.specs.Comings.{Coming, hops}

-- Each delivery has the octets of the frame that it names, which was sent by then, and no two deliveries name one frame.
pub record DeliversOnce (w : Scenario) (h : History) : Type 0 where
  pub known : All (λ d. d.frame < length w.script.sends) (Deliveries h)
  pub octets : All (λ d. d.octets ≡ FrameOf w d.frame) (Deliveries h)
  pub sent : All (λ d. (send w d.frame).send.tick.0 ≤ d.tick) (Deliveries h)
  pub once : AllPairs (λ d e. d.frame ≢ e.frame) (Deliveries h)

-- These frames of the script come to rings on their routes for the first time.
pub record ComeOnce (w : Scenario) (past : History) (cs : List Coming) : Type 0 where
  pub known : All (λ c. c.frame < length w.script.sends) cs
  pub onroute : All (λ c. Contains (hops w c.frame) c.arc) cs
  -- none of them began on that arc before, entered one of its rings or was dropped at it
  pub unbegun : All (λ c. All (λ b. what_is b.what c.frame ≡ false) (Begins past c.arc)) cs
  pub uncome : All (λ c. (p : ℕ) → All (λ e. e.frame ≢ c.frame) (Entries past c.arc p)) cs
  -- no two of them are one frame on one arc
  pub apart : AllPairs (λ c d. c.arc ≡ d.arc → c.frame ≢ d.frame) cs
