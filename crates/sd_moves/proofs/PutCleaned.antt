-- A page that device 0, settled, has in its newest version is called clean: what held of the complex holds of it then. For the
-- goals of `put_page`.
use Rattle.std.proofs.Common.{◌≡◌, ⊎_elim, ℕ, Bool, true, false, ◌||◌, None, refl, sym, ap, ◌∙◌, subst}
use Rattle.std.proofs.lemmas.Bool.{cases_eq}
use Rattle.sd_page.specs.Page.{Page}
use Rattle.sd_model.specs.State.{State}
use Rattle.sd_pagelock.specs.declared.queue.Ask.{Ask}
use Rattle.sd_pagelock.specs.Asks.{is_open_ask}
use Rattle.sd_pagelock.specs.Directory as directory
use Rattle.sd_pagelock.specs.Directory.{DirectoryState, asks_at, entry_at, kept_rec, rec_lsn_at}
use Rattle.sd_pagelock.specs.Places.{PageEntry, changed, is_lost}
use Rattle.sd_pagelock.specs.Rows.{may_write, written}
use Rattle.sd_pagelock.proofs.Uses.{clean-written}
use Rattle.sd_rig.specs.Devices as rig
use Rattle.sd_chain.specs.Bytes.{disk_page}
use Rattle.sd_chain.specs.Images.{Keeps}
use Rattle.sd_chain.specs.Records.{Each}
use Rattle.sd_chain.specs.Puts as puts_law
use Rattle.sd_chain.proofs.DiskPuts.{unput-keeps}
use Rattle.sd_chain.specs.Logs.{Outcomes, may_of}
use Rattle.sd_state.specs.Good.{Good, Half, dir_of}
use Rattle.sd_state.specs.Images.{log_by}
use Rattle.sd_state.specs.Locking.{IsSet}
use Rattle.sd_state.specs.Parts.{Parts, is_active, is_loose}
use Rattle.sd_state.specs.Values.{Pending}
use Rattle.sd_state.proofs.ChangedLists.{each-first, each-left}
use Rattle.sd_moves.specs.Putting.{MayBePut}
use Rattle.sd_moves.proofs.PutDevice.{device-good, with_marks}
use Rattle.sd_moves.proofs.PutTried as tried

module _ (p : ℕ) (im : Page) (places : DirectoryState Page) (seen : rig.DeviceImages) (leaves : Outcomes) (pend : Pending) (c : Parts)
    (m : State) (g : Good seen leaves pend c m) (left : leaves 0 (seen 0)) (can : MayBePut p im seen leaves c)
    (writes : (may_write (entry_at c.directory p) || is_lost (entry_at c.directory p)) ≡ true) (settled : is_loose c 0 ≡ false)
    (there : disk_page (seen 0) p ≡ im) (set : IsSet p (written (entry_at c.directory p)) None c.directory places)
    (moving : (q : ℕ) → directory.moving_image_at places q ≡ directory.moving_image_at c.directory q) where
  abbrev new : Parts
  new = with_marks c.loose places c

  abbrev place : PageEntry
  place = entry_at c.directory p

  module _ (moved : Keeps) where
    h : Half seen (tried.wide p im seen leaves pend c m g left can moved) (log_by c moved) pend c m
    h = g.half moved

    cleaned : puts_law.Cleaned p (tried.base p im seen leaves pend c m g left can moved) (rec_lsn_at places)
        (dir_of c) (dir_of new)
    cleaned = record {
      there = writes;
      here = set.entry;
      others = set.others;
      no_rec = set.rec_lsn
          ∙ ap (λ (b : Bool). kept_rec (changed place) b (rec_lsn_at c.directory p) None) (clean-written place writes);
      other_rec = set.other_rec_lsns;
      pool = λ k q. refl;
      moving = moving;
    }

    half-there : Half seen (tried.wide p im seen leaves pend c m g left can moved) (log_by c moved) pend new m
    half-there = record {
      coherent = unput-keeps (may_of (tried.wide p im seen leaves pend c m g left can moved)) p
          (tried.base p im seen leaves pend c m g left can moved) (dir_of c) (dir_of new) (rec_lsn_at places)
          h.coherent (tried.none p im seen leaves pend c m g left can moved) settled
          (ap (λ (x : Page). x.lsn)
          (sym (tried.is-now p im seen leaves pend c m g left can moved) ∙ sym there))
          cleaned;
      soundly = h.soundly;
      gives = h.gives;
      claimed = h.claimed;
      held = h.held;
      epochs = h.epochs;
      checks = h.checks;
    }

  abbrev IsAsk : PageEntry → Ask → Type 0
  IsAsk e ask = (is_active c ask.by ≡ true) × (is_open_ask e ask ≡ true)

  asks-there : (q : ℕ) → Each (IsAsk (entry_at places q)) (asks_at places q)
  asks-there q = ⊎_elim
      (λ e. subst (λ (k : ℕ). Each (IsAsk (entry_at places k)) (asks_at places k)) (sym e)
      (subst (λ (e : PageEntry). Each (IsAsk e) (asks_at places p)) (sym set.entry)
      (subst (Each (IsAsk (written place))) (sym set.asks)
      (each-left (λ (ask : Ask). is_active c ask.by ≡ true) (is_open_ask (written place)) (asks_at c.directory p)
      (each-first (λ (ask : Ask). is_active c ask.by ≡ true) (λ (ask : Ask). is_open_ask place ask ≡ true)
      (asks_at c.directory p) (g.asks p))))))
      (λ ne. subst (λ (e : PageEntry). Each (IsAsk e) (asks_at places q)) (sym (set.others q ne))
      (subst (Each (IsAsk (entry_at c.directory q))) (sym (set.other_asks q ne)) (g.asks q)))
      (cases_eq q p)

  pub cleaned-good : Good seen leaves pend new m
  cleaned-good = device-good c.loose places seen seen leaves leaves pend c m g g.shape.loose (λ d ne. refl) (λ d ne. refl)
      (λ d ne bytes. (λ l. l, λ l. l)) half-there g.disk_settled g.disk_lsns asks-there
