-- How a complex stays good while a page passes from pool to pool. For the goals of passing.rt.
use Rattle.std.proofs.Common.{◌≡◌, ◌≢◌, ℕ, ◌-◌, ◌≤◌, Bool, true, false, cond, eqb, List, [], ◌∷◌, refl, sym, ap, ap₂, ◌∙◌, subst, eqb-true}
use Rattle.std.specs.Prelude.{Option, None, Some, find, map, not, option_map, slice_set}
use Rattle.std.proofs.lemmas.List.{length-set}
use Rattle.sd_base.specs.declared.place.Mode.{Mode}
use Rattle.sd_logrec.specs.View.{flat}
use Rattle.sd_page.specs.Page.{Page}
use Rattle.sd_model.specs.State.{State}
use Rattle.sd_pagelock.specs.declared.queue.Ask.{Ask}
use Rattle.sd_pagelock.specs.Asks.{is_open_ask, oldest, open_asks}
use Rattle.sd_pagelock.specs.Directory.{DirectoryState, asks_at, entry_at, kept_rec, rec_lsn_at}
use Rattle.sd_pagelock.specs.Directory as directory
use Rattle.sd_pagelock.specs.Places.{Formed, PageEntry, changed, holds, owns, receives}
use Rattle.sd_pagelock.specs.Rows.{given_excl, given_shared, may_share, may_yield, taken}
use Rattle.sd_pagelock.proofs.Losses.{changed-given, changed-taken}
use Rattle.sd_pool.specs.Buffers as buffers
use Rattle.sd_pool.specs.Buffers.{Buffers}
use Rattle.sd_rig.specs.Devices as rig
use Rattle.sd_chain.specs.Images.{Keeps}
use Rattle.sd_chain.specs.Records.{Each}
use Rattle.sd_chain.specs.Coherent.{Coherent}
use Rattle.sd_chain.specs.Moves.{ForcedFor}
use Rattle.sd_chain.proofs.Moves.{share-keeps, take-keeps, yield-keeps}
use Rattle.sd_chain.specs.Logs.{Outcomes, may_of}
use Rattle.sd_state.specs.Good.{Good, base_of, dir_of}
use Rattle.sd_state.specs.Images.{leaves_by, log_by}
use Rattle.sd_state.specs.Locking.{IsSet, with_place}
use Rattle.sd_state.specs.Parts.{Parts, is_active, is_loose, log_at, pool_at}
use Rattle.sd_state.specs.Values.{Pending}
use Rattle.sd_moves.specs.Passing.{IsOnWay}
use Rattle.sd_moves.specs.Places.{with_directory}
use Rattle.sd_moves.proofs.Placed.{asks-set, elsewhere, one-copy, recs-set, tail-same, turned-good}

-- what holds of each ask holds of the oldest of another
pub oldest-each : (P : Ask → Type 0) (j : ℕ) (asks : List Ask) (to : ℕ) (mode : Mode) → Each P asks
    → oldest j asks ≡ Some (to, mode) → P (record { by = to; mode = mode })
oldest-each P j [] to mode all is = absurd (cc)
oldest-each P j (a ∷ tail) to mode all is = go (not (eqb a.by j)) (oldest-each P j tail to mode all.1) is
  where
    go : (b : Bool) → (oldest j tail ≡ Some (to, mode) → P (record { by = to; mode = mode }))
        → option_map {U = ℕ × Mode} (λ (ask : Ask). (ask.by, ask.mode))
        (cond {A = Option Ask} b (Some a) (find (λ (ask : Ask). not (eqb ask.by j)) tail)) ≡ Some (to, mode)
        → P (record { by = to; mode = mode })
    go true rest found =
        let one : Some (a.by, a.mode) ≡ Some (to, mode) = found in
        let same : (a.by, a.mode) ≡ (to, mode) = cc in
        subst (λ (x : ℕ × Mode). P (record { by = x.0; mode = x.1 })) same all.0
    go false rest found = rest found

-- nobody asks where nobody's ask is the oldest
pub asked-some : (j : ℕ) (asks : List Ask) (to : ℕ) (mode : Mode) → oldest j asks ≡ Some (to, mode) → asks ≢ []
asked-some j asks to mode is none = let clash : None ≡ Some (to, mode) = sym (ap (oldest j) none) ∙ is in absurd (cc)

-- what is set after a call that left places, RecLSNs and asks is set as it was before
pub set-from : (p : ℕ) (to : PageEntry) (rec : Option ℕ) (old mid new : DirectoryState Page)
    → ((q : ℕ) → entry_at mid q ≡ entry_at old q) → ((q : ℕ) → rec_lsn_at mid q ≡ rec_lsn_at old q)
    → ((q : ℕ) → asks_at mid q ≡ asks_at old q) → IsSet p to rec mid new → IsSet p to rec old new
set-from p to rec old mid new entries rec_lsns asks s = record {
  entry = s.entry;
  rec_lsn = s.rec_lsn
      ∙ ap₂ (λ (e : PageEntry) (l : Option ℕ). kept_rec (changed e) (changed to) l rec) (entries p) (rec_lsns p);
  asks = s.asks ∙ ap (open_asks to) (asks p);
  others = λ q ne. s.others q ne ∙ entries q;
  other_rec_lsns = λ q ne. s.other_rec_lsns q ne ∙ rec_lsns q;
  other_asks = λ q ne. s.other_asks q ne ∙ asks q;
}

-- ---- a page sets out

module _ (p j i : ℕ) (mode : Mode) (seen : rig.DeviceImages) (leaves : Outcomes) (pend : Pending) (c : Parts) (m : State)
    (g : Good seen leaves pend c m) (idle : c.due ≡ None) (held : holds (entry_at c.directory p) j ≡ true)
    (asked : oldest j (asks_at c.directory p) ≡ Some (i, mode))
    (forced : owns (entry_at c.directory p) j ≡ true → is_loose c j ≡ false → (log_at c j).tail ≡ []) where
  abbrev here : PageEntry
  here = entry_at c.directory p

  asker-active : is_active c i ≡ true
  asker-active = (oldest-each (λ (ask : Ask). (is_active c ask.by ≡ true) × (is_open_ask here ask ≡ true)) j (asks_at c.directory p) i mode
      (g.asks p) asked).0

  -- the log of one that has the page alone is forced
  forced-for : (moved : Keeps) → ForcedFor (base_of seen (leaves_by c moved leaves) (log_by c moved) c) (dir_of c) p
  forced-for moved k excl settled =
      let is : eqb k j ≡ true = sym (ap (λ (e : PageEntry). holds e j) excl) ∙ held in
      let own : k ≡ j = eqb-true k j is in
      ap (map flat) (tail-same c moved k ∙ ap (λ (n : ℕ). (log_at c n).tail) own
      ∙ forced (ap (λ (e : PageEntry). owns e j) excl ∙ is) (subst (λ (n : ℕ). is_loose c n ≡ false) own settled))

  module _ (places : DirectoryState Page)
      (way : IsOnWay p (buffers.image_at (pool_at c j) p) c.directory places) where
    -- the holders keep their copies
    module _ (row : may_share i here ≡ true) (set : IsSet p (given_shared i here) None c.directory places) where
      share-coherent : (moved : Keeps)
          → Coherent (base_of seen (leaves_by c moved leaves) (log_by c moved) c) (dir_of (with_directory places c))
      share-coherent moved =
          let leaves' : Outcomes = leaves_by c moved leaves in
          share-keeps (may_of leaves') (base_of seen leaves' (log_by c moved) c) (dir_of c) (dir_of (with_directory places c)) p j i
          (record {
            coherent = (g.half moved).coherent;
            idle = idle;
            forced = forced-for moved;
            others = record { entries = set.others; pools = λ k q ne. refl; moving = way.others };
          })
          asker-active row held set.entry (λ k. refl) way.here

      pub shared-good : Good seen leaves pend (with_directory places c) m
      shared-good = turned-good c.pools places seen leaves pend c m g g.shape.pools
          (recs-set p (given_shared i here) seen leaves pend c m g places set (changed-given i here))
          (asks-set p (given_shared i here) seen leaves pend c m g places set (changed-given i here))
          share-coherent

    -- the only holder gives its copy away
    module _ (pool : Buffers) (low : 1 ≤ j) (high : j ≤ 8) (gone : buffers.image_at pool p ≡ None)
        (else : (q : ℕ) → q ≢ p → buffers.image_at pool q ≡ buffers.image_at (pool_at c j) q)
        (row : may_yield i here ≡ true) (set : IsSet p (given_excl i here) None c.directory places) where
      yield-coherent : (moved : Keeps)
          → Coherent (base_of seen (leaves_by c moved leaves) (log_by c moved) c) (dir_of (with_place j pool places c))
      yield-coherent moved =
          let leaves' : Outcomes = leaves_by c moved leaves in
          yield-keeps (may_of leaves') (base_of seen leaves' (log_by c moved) c) (dir_of c) (dir_of (with_place j pool places c)) p j i
          (record {
            coherent = (g.half moved).coherent;
            idle = idle;
            forced = forced-for moved;
            others = record {
              entries = set.others;
              pools = elsewhere p j pool places c low high g.shape.pools else;
              moving = way.others;
            };
          })
          asker-active row held set.entry (one-copy p j pool places c low high g.shape.pools else None gone) way.here

      pub yielded-good : Good seen leaves pend (with_place j pool places c) m
      yielded-good = turned-good (slice_set c.pools (j - 1) pool) places seen leaves pend c m g
          (length-set c.pools (j - 1) pool ∙ g.shape.pools)
          (recs-set p (given_excl i here) seen leaves pend c m g places set refl)
          (asks-set p (given_excl i here) seen leaves pend c m g places set refl)
          yield-coherent

-- ---- a page is taken

module _ (p i : ℕ) (pool : Buffers) (seen : rig.DeviceImages) (leaves : Outcomes) (pend : Pending) (c : Parts) (m : State)
    (low : 1 ≤ i) (high : i ≤ 8) (g : Good seen leaves pend c m)
    (comes : buffers.image_at pool p ≡ directory.moving_image_at c.directory p)
    (else : (q : ℕ) → q ≢ p → buffers.image_at pool q ≡ buffers.image_at (pool_at c i) q)
    (places : DirectoryState Page) (set : IsSet p (taken (entry_at c.directory p)) None c.directory places)
    (way : IsOnWay p None c.directory places)
    (idle : c.due ≡ None) (formed : Formed (entry_at c.directory p)) (receiver : receives (entry_at c.directory p) i ≡ true) where
  abbrev arrived : Parts
  arrived = with_place i pool places c

  abbrev take_to : PageEntry
  take_to = taken (entry_at c.directory p)

  -- a page on its way is nobody's alone
  nobodys : (k : ℕ) → entry_at c.directory p ≡ PageEntry.Excl k true → ⊥
  nobodys k excl =
      let clash : false ≡ true = sym (ap (λ (e : PageEntry). receives e i) excl) ∙ receiver in absurd (cc)

  take-coherent : (moved : Keeps) → Coherent (base_of seen (leaves_by c moved leaves) (log_by c moved) c) (dir_of arrived)
  take-coherent moved =
      let leaves' : Outcomes = leaves_by c moved leaves in
      take-keeps (may_of leaves') (base_of seen leaves' (log_by c moved) c) (dir_of c) (dir_of arrived) p i
      (record {
        coherent = (g.half moved).coherent;
        idle = idle;
        forced = λ k excl settled. absurd (nobodys k excl);
        others = record {
          entries = set.others;
          pools = elsewhere p i pool places c low high g.shape.pools else;
          moving = way.others;
        };
      })
      formed receiver set.entry (one-copy p i pool places c low high g.shape.pools else (directory.moving_image_at c.directory p) comes)
      way.here

  pub taken-good : Good seen leaves pend arrived m
  taken-good = turned-good (slice_set c.pools (i - 1) pool) places seen leaves pend c m g
      (length-set c.pools (i - 1) pool ∙ g.shape.pools)
      (recs-set p take_to seen leaves pend c m g places set (changed-taken (entry_at c.directory p)))
      (asks-set p take_to seen leaves pend c m g places set (changed-taken (entry_at c.directory p)))
      take-coherent
