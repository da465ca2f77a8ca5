-- Device 0 is otherwise, with the marks of what is settled and the page directory: what held of the complex holds of it then. For
-- the goals of `settle_disk`, `put_image` and `put_page`.
use Rattle.std.proofs.Common.{◌≡◌, ◌≢◌, ◌⊎◌, ℕ, zero, suc, ◌≤◌, Bool, true, false, List, length, get_or, sym, ap, ◌∙◌, subst, arith}
use Rattle.std.specs.Prelude.{Some, IfSome}
use Rattle.sd_base.specs.Twin.{chosen_body, number_of}
use Rattle.sd_logrec.specs.Kept.{master}
use Rattle.sd_log.specs.Logs.{StandsOn, forced}
use Rattle.sd_page.specs.Page.{Page}
use Rattle.sd_model.specs.State.{State}
use Rattle.sd_pagelock.specs.Asks.{is_open_ask}
use Rattle.sd_pagelock.specs.Directory.{DirectoryState, asks_at, entry_at}
use Rattle.sd_rig.specs.Devices as rig
use Rattle.sd_rig.specs.Devices.{LeavesOnly, LeavesSame}
use Rattle.sd_chain.specs.Images.{Keeps}
use Rattle.sd_chain.specs.Records.{Each}
use Rattle.sd_chain.specs.Logs.{Outcomes, may_of, past_at}
use Rattle.sd_state.specs.Good.{Good, Half, IsKnownLsn, IsSettledAt, IsUnderWay}
use Rattle.sd_state.specs.Images.{leaves_by, log_by}
use Rattle.sd_state.specs.Parts.{Parts, count_at, is_active, is_loose, log_at, other_at}
use Rattle.sd_state.specs.Values.{Pending}

-- the complex with these marks and this directory
abbrev pub with_marks : List Bool → DirectoryState Page → Parts → Parts
with_marks marks places c = record c { loose = marks; directory = places }

module _ (marks : List Bool) (places : DirectoryState Page) (seen seen' : rig.DeviceImages) (leaves leaves' : Outcomes) (pend : Pending)
    (c : Parts) (m : State) (g : Good seen leaves pend c m) (size : length marks ≡ 9)
    (kept : (d : ℕ) → d ≢ 0 → get_or marks d true ≡ is_loose c d) (others : (d : ℕ) → d ≢ 0 → seen' d ≡ seen d)
    (others_leave : (d : ℕ) → d ≢ 0 → LeavesSame (leaves d) (leaves' d)) where
  abbrev new : Parts
  new = with_marks marks places c

  log-device : (j : ℕ) → 1 ≤ j → j ≢ 0
  log-device j low e = omega (arith, low, e)

  was : (j : ℕ) (b : Bool) → 1 ≤ j → is_loose new j ≡ b → is_loose c j ≡ b
  was j b low e = sym (kept j (log-device j low)) ∙ e

  settled-there : (j : ℕ) → 1 ≤ j → j ≤ 8 → is_loose new j ≡ false → IsSettledAt seen' leaves' new j
  settled-there j low high e =
      let s = g.settled j low high (was j false low e) in
      let same : seen' j ≡ seen j = others j (log-device j low) in
      let left = others_leave j (log-device j low) in
      record {
        only = λ bytes. (
          (λ l. (s.only bytes).0 ((left bytes).0 l) ∙ sym same),
          (λ is. (left bytes).1 ((s.only bytes).1 (is ∙ same))),
        );
        stands = subst (λ (bytes : List ℕ). StandsOn (log_at c j) bytes) (sym same) s.stands;
        one_place = s.one_place;
        counted = subst (λ (bytes : List ℕ). IfSome (chosen_body 0 64 bytes) (λ body. number_of body ≡ count_at c j)) (sym same)
            s.counted;
        epoch = ap (λ (bytes : List ℕ). (past_at (master bytes) (forced (log_at c j))).epoch) same ∙ s.epoch;
      }

  underway : (u : Pending) → IsUnderWay c m u → IsUnderWay new m u
  underway Pending.Idle h = tt
  underway (Pending.Commits t) h = record { runs = h.runs; up = h.up; committed = h.committed }
  underway (Pending.Starts k) h = record { waits = h.waits; above = h.above; older = h.older }

  pub device-good : ((moved : Keeps) → Half seen' (leaves_by c moved leaves') (log_by c moved) pend new m)
      → (get_or marks 0 true ≡ false → LeavesOnly (seen' 0) (leaves' 0))
      → ((moved : Keeps) (q : ℕ) (x : Page) → may_of leaves' q x → IsKnownLsn c (log_by c moved) x.lsn)
      → ((q : ℕ) → Each (λ ask. (is_active c ask.by ≡ true) × (is_open_ask (entry_at places q) ask ≡ true)) (asks_at places q))
      → Good seen' leaves' pend new m
  device-good half only lsns asks = record {
    shape = record {
      logs = g.shape.logs;
      pools = g.shape.pools;
      txns = g.shape.txns;
      statuses = g.shape.statuses;
      epochs = g.shape.epochs;
      masters = g.shape.masters;
      checks = g.shape.checks;
      others = g.shape.others;
      owed = g.shape.owed;
      loose = size;
      own_log = g.shape.own_log;
      own_txns = g.shape.own_txns;
    };
    half = half;
    places = places-there;
    others = g.others;
    settled = settled-there;
    disk_settled = only;
    disk_lsns = lsns;
    last = g.last;
    owed = λ j low high e. g.owed j low high (was j false low e);
    owed_loose = λ moved j low high e. g.owed_loose moved j low high (was j true low e);
    kept = g.kept;
    placed = g.placed;
    listed = g.listed;
    marked = g.marked;
    named = g.named;
    numbered = g.numbered;
    recoverers = g.recoverers;
    not_closed = g.not_closed;
    instances = λ k low high. let old = g.instances k low high in
        record {
          status = old.status;
          epoch = old.epoch;
          first = old.first;
          own = old.own;
          table = old.table;
          begins = old.begins;
          names = old.names;
        };
    told = λ k low high tells e. let old = g.told k low high tells (was k false low e) in
        record { rows = old.rows; owes = old.owes; reserves = old.reserves; spare = old.spare };
    at_rest = λ k low high tells e. g.at_rest k low high tells (was k false low e);
    begun = g.begun;
    at_work = g.at_work;
    going = g.going;
    pending = underway pend g.pending;
    locks = g.locks;
    gone = g.gone;
    asks = asks;
    checking = λ k b is. let old = g.checking k b is in record { takes = old.takes; spelled = old.spelled; begun = old.begun };
  }
    where
      places-there : (j place : ℕ) → other_at new j ≡ Some place → (bytes : List ℕ) → leaves' j bytes
          → ((master bytes).start ≡ place) ⊎ ((master bytes).start ≡ (log_at new j).start)
      places-there zero place other bytes left = absurd (let clash = other in cc)
      places-there (suc j) place other bytes left =
          g.places (suc j) place other bytes ((others_leave (suc j) (λ e. omega (arith, e)) bytes).0 left)
