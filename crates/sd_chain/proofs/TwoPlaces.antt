-- While a log has two start places: between calls, while another log is forced, and while a page is put. For the law
-- `two_places`.
use Rattle.std.proofs.Common.{◌≡◌, ◌≢◌, inl, inr, ⊎_elim, ℕ, ◌≤◌, List, [], sym, ap, ◌∙◌, subst, arith}
use Rattle.sd_page.specs.Page.{Page, PageFits}
use Rattle.sd_page.specs.Spelling.{page_spelling}
use Rattle.sd_log.specs.Logs.{LogState}
use Rattle.sd_log.specs.Forces.{Forces}
use Rattle.sd_rig.specs.Devices as rig
use Rattle.sd_rig.specs.Puts.{Puts}
use Rattle.sd_chain.specs.Bytes.{twin_at}
use Rattle.sd_chain.specs.Checks.{DevicesAreSound}
use Rattle.sd_chain.specs.Images.{IsSafe, Keeps, or_written}
use Rattle.sd_chain.proofs.Narrowed.{narrowed-safe}
use Rattle.sd_rig.specs.Devices.{AgreesOutside}
use Rattle.sd_rig.specs.Gates.{LeavesOthers}
use Rattle.sd_chain.specs.Logs.{Logs, Outcomes, base_at, may_of, tails_of}
use Rattle.sd_chain.specs.Soundly.{IsSoundly}
use Rattle.sd_chain.specs.Starts.{only_if}
use Rattle.sd_chain.specs.ChecksKept.{HasLsnsAbove, Leftover, TwiceForceLeavesSound, TwiceLeftIsSound, TwicePutLeavesSound}
use Rattle.sd_chain.proofs.ChecksPass.{between-left}
use Rattle.sd_chain.proofs.Forces.{force-left}
use Rattle.sd_chain.proofs.Puts.{put-left}

-- a page that may be left where device i is left so may be left
pub may-only : (i : ℕ) (P : List ℕ → Type 0) (leaves : Outcomes) (p : ℕ) (x : Page) → may_of (only_if i P leaves) p x
    → may_of leaves p x
may-only i P leaves p x m = (m.0, m.1.0, m.2)

-- One start place: device i of this image is left as it is with this one.
module _ (i : ℕ) (R : Leftover) (leaves : Outcomes) (logs : Logs) (version : Keeps → ℕ → Page) (none : base_at (logs 0) ≡ [])
    (img : rig.DeviceImages) (s : IsSoundly (only_if i R leaves) logs) (here : R (img i)) where
  others : (dev : ℕ) → LeavesOthers dev leaves img → LeavesOthers dev (only_if i R leaves) img
  others dev left d le ne = (left d le ne, λ e. subst (λ (k : ℕ). R (img k)) (sym e) here)

  safely : IsSafe (tails_of logs) (may_of leaves) version → IsSafe (tails_of logs) (may_of (only_if i R leaves)) version
  safely safe = narrowed-safe (may_of leaves) (may_of (only_if i R leaves)) (may-only i R leaves) (tails_of logs) version safe

  or_only : (p : ℕ) (page : Page) (q : ℕ) (x : Page) → or_written (may_of (only_if i R leaves)) p page q x
      → or_written (may_of leaves) p page q x
  or_only p page q x m = ⊎_elim (λ old. inl (may-only i R leaves q x old)) (λ new. inr new) m

  place-left : IsSafe (tails_of logs) (may_of leaves) version → rig.Leaves leaves img → DevicesAreSound img
  place-left safe left = between-left (only_if i R leaves) logs version img s (safely safe) none
      (λ d le. (left d le, λ e. subst (λ (k : ℕ). R (img k)) (sym e) here))

  place-force : (k : ℕ) (seen : rig.DeviceImages) → 1 ≤ k → k ≤ 8 → k ≢ i → (logs k).inst ≡ k → leaves k (seen k)
      → IsSafe (tails_of logs) (may_of leaves) version → Forces (logs k) seen leaves img → DevicesAreSound img
  place-force k seen lo hi ne inst left safe f =
      force-left (only_if i R leaves) k logs seen version img lo hi inst (left, λ e. absurd (ne e)) s (safely safe) none
      (record { others = others (logs k).inst f.others; outside = f.outside; whole = f.whole })

  place-put : (p : ℕ) (page : Page) (seen : rig.DeviceImages) → 1 ≤ i → PageFits page → page.number ≡ p → HasLsnsAbove page logs
      → leaves 0 (seen 0) → IsSafe (tails_of logs) (or_written (may_of leaves) p page) version
      → Puts 0 (twin_at p) 1024 (page_spelling page) seen leaves img → DevicesAreSound img
  place-put p page seen low fits number below left safe f =
      put-left (only_if i R leaves) p page logs seen fits number below (left, λ e. absurd (omega (arith, low, e))) s version
      (narrowed-safe (or_written (may_of leaves) p page) (or_written (may_of (only_if i R leaves)) p page) (or_only p page)
      (tails_of logs) version safe) none img
      (record {
        others = others 0 f.others;
        outside = f.outside;
        whole = f.whole;
        first = f.first;
        second = f.second;
        differ = f.differ;
      })

-- between calls
pub two_places-left : (leaves : Outcomes) (P Q : Leftover) → TwiceLeftIsSound leaves P Q
two_places-left leaves P Q i one other img hi t a left = ⊎_elim
    (λ p. place-left i P leaves one a.version a.none img t.first p a.safe left)
    (λ q. place-left i Q leaves other a.version' a.none' img t.second q a.safe' left)
    (t.either (img i) (left i hi))

-- while another log is forced
pub two_places-force : (leaves : Outcomes) (P Q : Leftover) → TwiceForceLeavesSound leaves P Q
two_places-force leaves P Q i k one other seen img low high t a lo hi ne inst same left f = ⊎_elim
    (λ p. place-force i P leaves one a.version a.none img t.first p k seen lo hi ne inst left a.safe f)
    (λ q. place-force i Q leaves other a.version' a.none' img t.second q k seen lo hi ne
    (ap (λ (l : LogState). l.inst) same ∙ inst) left a.safe'
    (subst (λ (l : LogState). Forces l seen leaves img) (sym same) f))
    (t.either (img i) (f.others i high (λ e. ne (sym (e ∙ inst)))))

-- while a page is put
pub two_places-put : (leaves : Outcomes) (P Q : Leftover) → TwicePutLeavesSound leaves P Q
two_places-put leaves P Q i p page one other seen img low high t a fits number below below' left f = ⊎_elim
    (λ r. place-put i P leaves one a.version a.none img t.first r p page seen low fits number below left a.safe f)
    (λ r. place-put i Q leaves other a.version' a.none' img t.second r p page seen low fits number below' left a.safe' f)
    (t.either (img i) (f.others i high (λ e. omega (arith, low, e))))
