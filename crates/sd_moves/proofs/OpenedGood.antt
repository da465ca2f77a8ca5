-- A complex that is opened is as each state of the serial table says to which its devices open: for `assemble`.
use Rattle.std.proofs.lemmas.List.Elements.{recursion_from_All}
use Rattle.sd_chain.proofs.Lsns.{log-records, scanned-records}
use Rattle.sd_log.specs.declared.placed.Placed.{Placed}
use Rattle.sd_logrec.specs.declared.record.Record.TheVariants as records
use Rattle.sd_logrec.specs.declared.record.Record.{Record}
use Rattle.sd_logrec.specs.Spelling.{HasSpelling}
use Rattle.sd_base.specs.Ids.{same_txn}
use Rattle.sd_base.proofs.SameIds.{cases_txn, ne-same}
use Rattle.sd_chain.proofs.Newest.{and_true}
use Rattle.sd_chain.proofs.Fates.{fate-open}
use Rattle.sd_chain.specs.Order.{of_txn, speaks}
use Rattle.sd_logrec.specs.View.{Rec, flat}
use Rattle.sd_chain.proofs.Next.{own-begun}
use Rattle.std.specs.List.{list_any, AllByRecursion}
use Rattle.sd_base.specs.declared.ids.TxnId.{TxnId}
use Rattle.sd_model.specs.declared.act.Claim.{Claim}
use Rattle.std.proofs.Common.{◌≡◌, inl, ⊎_elim, ℕ, ◌≤◌, Bool, true, false, cond, ◌||◌, ◌+◌, List, [], length, refl, sym, ap, ◌∙◌, subst, arith, map, zero, suc, ◌∷◌}
use Rattle.std.specs.Prelude.{None, sum_by, Option, Some, ◌&&◌}
use Rattle.std.proofs.lemmas.Bool.{cases_lt}
use Rattle.sd_logrec.specs.Kept.{master}
use Rattle.sd_log.specs.Logs.{LogState, forced, last_lsn, scanned, AreSpelled}
use Rattle.sd_page.specs.Page.{Page}
use Rattle.sd_model.specs.State.{State}
use Rattle.sd_model.specs.declared.act.Life.{Life}
use Rattle.sd_pagelock.specs.Asks.{is_open_ask}
use Rattle.sd_pagelock.specs.Directory.{entry_at}
use Rattle.sd_rig.specs.Devices as rig
use Rattle.sd_rig.specs.Devices.{LeavesOnly}
use Rattle.sd_txn.specs.Owing.{bytes_owed, records_owed}
use Rattle.sd_txn.specs.Transactions.{txn_at, Transaction}
use Rattle.sd_chain.specs.Bytes.{disk_page, log_of, stable}
use Rattle.sd_chain.specs.Checks.{open_in, owed, reserve, reserve_for}
use Rattle.sd_chain.specs.Fates.{fate, Fate}
use Rattle.sd_chain.specs.Storage.{Storage, opens}
use Rattle.sd_chain.specs.Images.{Keeps}
use Rattle.sd_chain.specs.Records.{Each, stack, at, home}
use Rattle.sd_chain.specs.Logs.{Outcomes, all_at, base_at, may_of, past_at}
use Rattle.sd_chain.specs.Soundly.{LogIsSound}
use Rattle.sd_chain.proofs.Kept.{forced-idle, log-past}
use Rattle.sd_chain.proofs.Opened.{past-page}
use Rattle.sd_state.specs.Good.{Good, IsInstance, IsKnownLsn, IsSettledAt, IsTold, HasNumber}
use Rattle.sd_moves.specs.Opening.{AreOpened, OpensTo, is_any, is_left, is_loser, some_lost, IsLeftRow, IsLeftIn}
use Rattle.sd_state.specs.Parts.{Parts, is_active, log_at, other_at, status_at, txns_at}
use Rattle.sd_state.specs.Tables.{NamedOnce, RowIsLogged, goes_on_as, lock_of, tells_log}
use Rattle.sd_state.specs.Values.{Pending}
use Rattle.sd_state.proofs.Lasts.{last-sound}
use Rattle.sd_moves.proofs.OpenedHalf.{all-is, base-is, epoch-is, half, is-settled, left-is, no-check, no-other, soundly}
use Rattle.sd_moves.proofs.OpenedImage.{names-left, none-left, not-closed, not-up, rows-left, told-none}
use Rattle.sd_state.proofs.Standing.{no-place, one-place}
use Rattle.sd_state.specs.Images.{log_by}

-- nobody works whom the image leaves open, or doesn't know
none-goes : (life : Life) (b : Bool) (runs rolls : Type 0) → life ≡ cond {A = Life} b Life.Retained Life.Gone
    → goes_on_as life runs rolls → ⊥
none-goes life true runs rolls is g = subst (λ (l : Life). goes_on_as l runs rolls) is g
none-goes life false runs rolls is g = subst (λ (l : Life). goes_on_as l runs rolls) is g

-- one that is left is open
left-open : (f : Fate) → is_left f ≡ true → f ≡ Fate.Open
left-open Fate.Unknown e = absurd (cc)
left-open Fate.Open e = refl
left-open Fate.Committed e = absurd (cc)
left-open Fate.Ended e = absurd (cc)

-- a record of a transaction has its number
number-of : (r : Record) → HasSpelling r → speaks (flat r).kind ≡ true → HasNumber (flat r).txn
number-of (records.Start lsn epoch) s e = absurd (cc)
number-of (records.Update lsn txn prev page slot capacity before after) s e = (s.1.epoch.0, s.1.seq.0)
number-of (records.Clr lsn txn prev undo_next page slot after) s e = (s.1.epoch.0, s.1.seq.0)
number-of (records.Commit lsn txn prev) s e = (s.1.epoch.0, s.1.seq.0)
number-of (records.End lsn txn prev) s e = (s.1.epoch.0, s.1.seq.0)
number-of (records.BeginCheck lsn) s e = absurd (cc)
number-of (records.EndCheck lsn begin spans recs) s e = absurd (cc)

abbrev IsNumbered : Rec → Type 0
IsNumbered x = speaks x.kind ≡ true → HasNumber x.txn

each-number : (ps : List Placed) → AllByRecursion (λ (p : Placed). HasSpelling p.rec) ps
    → Each IsNumbered (map flat (map (λ (p : Placed). p.rec) ps))
each-number [] s = tt
each-number (p ∷ ps) s = (number-of p.rec s.0, each-number ps s.1)

log-numbers : (l : LogState) → AreSpelled (scanned l) → Each IsNumbered (all_at l)
log-numbers l s = subst (Each IsNumbered) (ap (map flat) (scanned-records l) ∙ log-records l)
    (each-number (scanned l) (recursion_from_All (λ (p : Placed). HasSpelling p.rec) (scanned l) s))

same-is : (a b : TxnId) → same_txn a b ≡ true → a ≡ b
same-is a b same = ⊎_elim (λ e. e) (λ ne. let off = ne-same a b ne in let clash = sym same ∙ off in absurd (cc)) (cases_txn a b)

-- so has each transaction with a record
number-in : (t : TxnId) (xs : List Rec) → Each IsNumbered xs → list_any (of_txn t) xs ≡ true → HasNumber t
number-in t [] each has = absurd (cc)
number-in t (x ∷ xs) each has = by (of_txn t x) refl (λ later. number-in t xs each.1 later)
  where
    by : (b : Bool) → of_txn t x ≡ b → (list_any (of_txn t) xs ≡ true → HasNumber t) → HasNumber t
    by true is rest = let parts = and_true (speaks x.kind) (same_txn x.txn t) is in
        subst HasNumber (same-is x.txn t parts.1) (each.0 parts.0)
    by false is rest = rest (sym (ap (λ (b : Bool). b || list_any (of_txn t) xs) is) ∙ has)

-- who isn't left open claims nothing
claim-gone : (left open_there : Bool) → cond {A = Life} left Life.Retained Life.Gone ≡ Life.Gone
    → cond {A = Claim} (left && open_there) Claim.Excl Claim.Free ≡ Claim.Free
claim-gone true open_there e = absurd (cc)
claim-gone false open_there e = refl

module _ (seen : rig.DeviceImages) (leaves : Outcomes) (frames : ℕ) (c : Parts) (m : State)
    (only : (d : ℕ) → d ≤ 8 → LeavesOnly (seen d) (leaves d)) (size : length (seen 0) ≡ rig.device_len 0)
    (a : AreOpened frames seen c) (o : OpensTo seen m) where
  abbrev img : Storage
  img = stable seen

  base : (j : ℕ) → base_at (log_at c j) ≡ log_of seen j
  base = base-is seen leaves frames c m only size a o

  whole : (j : ℕ) → all_at (log_at c j) ≡ log_of seen j
  whole = all-is seen leaves frames c m only size a o

  no_other : (j : ℕ) → other_at c j ≡ None
  no_other = no-other seen leaves frames c m only size a o

  settled : (j : ℕ) → 1 ≤ j → j ≤ 8 → IsSettledAt seen leaves c j
  settled j low high = record {
    only = only j high;
    stands = (a.insts j low high).log.stands;
    one_place = no_other j;
    counted = (a.insts j low high).master;
    epoch = ap (λ (l : LogState). (past_at (master (seen j)) l).epoch) (forced-idle (log_at c j) (a.insts j low high).log.tail)
        ∙ epoch-is seen leaves frames c m only size a o j low high ∙ sym (a.insts j low high).epoch;
  }

  -- a page's LSN is known; there are no more than 1,024
  known : (moved : Keeps) (p : ℕ) (x : Page) → may_of leaves p x → IsKnownLsn c (log_by c moved) x.lsn
  known moved p x may =
      let left : may.0 ≡ seen 0 = left-is seen leaves frames c m only size a o 0 (omega arith) may.0 may.1 in
      let is = ap (λ (y : Page). y.lsn) (sym may.2 ∙ ap (λ (bytes : List ℕ). disk_page bytes p) left) in
      ⊎_elim
      (λ lt. let low = a.disk_lsns p lt in inl (omega (arith, is, low)))
      (λ ge. let none = ap (λ (y : Page). y.lsn) (past-page p (seen 0) (omega (arith, size, ge))) in
      inl (omega (arith, is, none)))
      (cases_lt p 1024)

  sound-there : (j : ℕ) → 1 ≤ j → j ≤ 8 → LogIsSound j (seen j) (forced (log_at c j))
  sound-there j low high =
      let moved : Keeps = λ i. false in
      subst (λ (l : LogState). LogIsSound j (seen j) (forced l)) (one-place c moved j (no_other j))
      ((soundly seen leaves frames c m only size a o moved).ready j low high (seen j)
      ((only j high (seen j)).1 refl, no-place (other_at c j) _ (no_other j))).sound_forced

  last : (j : ℕ) → 1 ≤ j → j ≤ 8 → Each (λ x. x.lsn ≤ last_lsn (scanned (log_at c j))) (all_at (log_at c j))
  last j low high = last-sound j (seen j) (log_at c j) (sound-there j low high)

  -- ---- instances

  -- whom a log leaves open is of its own instance
  own-left : (i : ℕ) → 1 ≤ i → i ≤ 8 → (t : TxnId) (x : Transaction) → txn_at (txns_at c i) t ≡ Some x → home t ≡ i
  own-left i low high t x is =
      let row : IsLeftRow x t (log_of seen i) =
      subst (λ (o : Option Transaction). IsLeftIn o t (log_of seen i)) is ((a.insts i low high).rows t) in
      (own-begun i (seen i) (log_at c i) t (sound-there i low high)
      (subst (λ (log : List Rec). list_any (of_txn t) log ≡ true) (sym (whole i)) (fate-open t (log_of seen i) row.left).1)).0

  home-there : (t : TxnId) (j : ℕ) → list_any (of_txn t) (log_of seen j) ≡ true → (1 ≤ j) × (j ≤ 8)
  home-there t zero has = absurd (cc)
  home-there t (suc j) has = ⊎_elim (λ lt. (omega arith, omega (arith, lt)))
      (λ ge. let clash = sym (ap (list_any (of_txn t)) (log-past seen (suc j) ge)) ∙ has in absurd (cc))
      (cases_lt (suc j) 9)

  -- and its number is one of the grammar
  left-number : (t : TxnId) (left : Bool) → is_loser img t ≡ left → (left ≡ false → ⊥) → HasNumber t
  left-number t false is left = absurd (left refl)
  left-number t true is left =
      let open_there = left-open (fate t (log_of seen (home t))) is in
      let has = (fate-open t (log_of seen (home t)) open_there).1 in
      let r = home-there t (home t) has in
      number-in t (all_at (log_at c (home t))) (log-numbers (log_at c (home t)) (a.insts (home t) r.0 r.1).spelled)
      (subst (λ (log : List Rec). list_any (of_txn t) log ≡ true) (sym (whole (home t))) has)

  none-elsewhere : (o : Option Transaction) → ((x : Transaction) → o ≡ Some x → ⊥) → o ≡ None
  none-elsewhere None never = refl
  none-elsewhere (Some x) never = absurd (never x refl)

  abbrev down : ℕ → Bool
  down i = is_any (open_in (img.logs i)) || some_lost img 1024

  instance-is : (i : ℕ) → 1 ≤ i → i ≤ 8 → IsInstance c m i
  instance-is i low high = record {
    status = (a.insts i low high).status ∙ sym (o.statuses i low high);
    epoch = λ up. absurd (not-up (down i) (sym (a.insts i low high).status ∙ up));
    begins = λ up. absurd (not-up (down i) (sym (a.insts i low high).status ∙ up));
    table = let e = (a.insts i low high).table in omega (arith, e);
    first = λ up. absurd (not-up (down i) (sym (a.insts i low high).status ∙ up));
    own = λ t ne. none-elsewhere (txn_at (txns_at c i) t) (λ x is. ne (own-left i low high t x is));
    names = λ t own. names-left (txn_at (txns_at c i) t) t (log_of seen i) (m.part t).life (fate t (base_at (log_at c i)))
        (fate t (all_at (log_at c i)))
        (subst (λ (j : ℕ). (m.part t).life ≡ cond {A = Life} (is_left (fate t (log_of seen j))) Life.Retained Life.Gone) own
        (o.lives t))
        ((a.insts i low high).rows t);
  }

  -- where a table tells of a log, that leaves nobody open, and the table is empty
  told : (i : ℕ) → 1 ≤ i → i ≤ 8 → tells_log (status_at c i) ≡ true → IsTold c m i
  told i low high tells =
      let found = a.insts i low high in
      let alive : open_in (log_of seen i) ≡ [] =
      told-none (open_in (log_of seen i)) (some_lost img 1024) (ap tells_log (sym found.status) ∙ tells) in
      let rows : (txns_at c i).unresolved ≡ [] = none-left (log_of seen i) (txns_at c i).unresolved alive found.rows in
      record {
        rows = λ t own. subst (RowIsLogged (txn_at (txns_at c i) t) t) (sym (whole i))
            (rows-left (txn_at (txns_at c i) t) t (log_of seen i) (found.rows t));
        owes = ap (sum_by (λ e. records_owed e.1)) rows
            ∙ sym (ap owed (whole i) ∙ ap (sum_by (λ t. 1 + length (stack t (log_of seen i)))) alive);
        reserves = ap (sum_by (λ e. bytes_owed e.1)) rows
            ∙ sym (ap reserve (whole i) ∙ ap (sum_by (reserve_for (log_of seen i))) alive);
        spare = λ up. absurd (not-up (down i) (sym found.status ∙ up));
      }

  -- ---- the whole

  pub opened-good : Good seen leaves Pending.Idle c m
  opened-good = record {
    shape = a.shape;
    half = half seen leaves frames c m only size a o;
    places = λ j place is. let e = sym (no_other j) ∙ is in absurd (cc);
    others = λ i place low high is. let e = sym (no_other i) ∙ is in absurd (cc);
    settled = λ j low high e. settled j low high;
    disk_settled = λ e. only 0 (omega arith);
    disk_lsns = known;
    last = last;
    owed = λ j low high e. (a.insts j low high).owed ∙ sym (ap owed (base j));
    owed_loose = λ moved j low high e. let off = sym (is-settled seen leaves frames c m only size a o j high) ∙ e in absurd (cc);
    kept = o.kept;
    placed = o.placed;
    listed = o.listed;
    marked = o.marked;
    numbered = λ t there. left-number t (is_loser img t) refl (λ gone. there (o.lives t ∙ ap (λ (b : Bool). cond {A = Life} b Life.Retained Life.Gone) gone));
    named = λ t. subst NamedOnce (sym (o.marks t)) tt;
    recoverers = o.recoverers;
    not_closed = λ e. not-closed (down 1) (sym (o.statuses 1 (omega arith) (omega arith)) ∙ e);
    instances = instance-is;
    told = λ i low high tells e. told i low high tells;
    at_rest = λ i low high tells e. (a.insts i low high).log.tail;
    begun = λ i low high up. absurd (not-up (down i) (sym (a.insts i low high).status ∙ up));
    at_work = λ i low high up. absurd (not-up (down i) (sym (a.insts i low high).status ∙ up));
    going = λ t low high g. absurd (none-goes (m.part t).life (is_loser img t) _ _ (o.lives t) g);
    pending = tt;
    gone = λ t e r. o.claims t r ∙ claim-gone (is_loser img t) (list_any (at r.page r.slot) (opens img t))
        (sym (o.lives t) ∙ e);
    locks = λ t r. a.locks t r ∙ ap lock_of (sym (o.claims t r));
    asks = λ p. subst (Each (λ ask. (is_active c ask.by ≡ true) × (is_open_ask (entry_at c.directory p) ask ≡ true)))
        (sym (a.pages p).unasked) tt;
    checking = λ i k is. let e = sym (no-check seen leaves frames c m only size a o i) ∙ is in absurd (cc);
  }
