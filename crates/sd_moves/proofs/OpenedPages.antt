-- A page that an image doesn't call lost is on disk; above the last page of the data device none is changed; no record that the disk
-- lacks is below a RecLSN: for `assemble`.
use Rattle.std.proofs.Common.{◌≡◌, ⊎_elim, ℕ, zero, suc, ◌<◌, ◌≤◌, Bool, true, false, ◌&&◌, ltb, List, [], ◌∷◌, map, refl, sym, ap, subst, arith, le-ltb, lt-ltb, ltb-false, ne_eqb}
use Rattle.std.specs.Prelude.{Some, filter}
use Rattle.std.proofs.lemmas.Bool.{cases_eq, cases_lt}
use Rattle.std.proofs.lemmas.List.Elements.{All-head, All-tail}
use Rattle.sd_logrec.specs.Spelling.{HasSpelling}
use Rattle.sd_logrec.specs.View.{Rec, flat}
use Rattle.sd_logrec.specs.declared.record.Record.{Record}
use Rattle.sd_logrec.specs.declared.record.Record.TheVariants as records
use Rattle.sd_log.specs.Logs.{AreSpelled}
use Rattle.sd_log.specs.declared.placed.Placed.{Placed}
use Rattle.sd_chain.specs.Storage.{Storage, all_of, chain, newest, sorted}
use Rattle.sd_chain.specs.Laws.{Opens, as_read}
use Rattle.sd_chain.specs.Pages.{replay}
use Rattle.sd_chain.specs.Records.{Each, of_page}
use Rattle.sd_chain.proofs.Above.{Each-filter_back, Each-sorted_back}
use Rattle.sd_chain.proofs.Chains.{Each-all_of, replay_rises}
use Rattle.sd_chain.proofs.Cuts.{filter_none}
use Rattle.sd_chain.proofs.Lists.{Each-all, Each-back, Each-front}
use Rattle.sd_chain.specs.Coherent.{NoneBefore, Quiet}
use Rattle.sd_chain.specs.Statuses.{LostAreRead, opened_base, opened_dir}
use Rattle.sd_chain.proofs.DiskPuts.{same-lsn}
use Rattle.sd_chain.proofs.Statuses.{opening-coherent}
use Rattle.sd_recovered.specs.FirstAbove.{IsLeastAbove}
use Rattle.sd_moves.specs.Opening.{is_lost_in}

-- ---- pages that no record changes

small : (page p : ℕ) → page < 1024 → 1024 ≤ p → page ≡ p → ⊥
small page p low far e = omega (arith, low, far, e)

-- a record of the grammar changes a page of the data device
none-of : (p : ℕ) → 1024 ≤ p → (r : Record) → HasSpelling r → of_page p (flat r) ≡ false
none-of p far (records.Start lsn epoch) s = refl
none-of p far (records.Update lsn txn prev page slot capacity before after) s = ne_eqb page p (small page p s.3 far)
none-of p far (records.Clr lsn txn prev undo_next page slot after) s = ne_eqb page p (small page p s.4 far)
none-of p far (records.Commit lsn txn prev) s = refl
none-of p far (records.End lsn txn prev) s = refl
none-of p far (records.BeginCheck lsn) s = refl
none-of p far (records.EndCheck lsn begin spans recs) s = refl

pub none-beyond : (p : ℕ) → 1024 ≤ p → (ps : List Placed) → AreSpelled ps → Quiet p (map flat (map (λ q. q.rec) ps))
none-beyond p far [] all = tt
none-beyond p far (q ∷ ps) all = (
  none-of p far q.rec (All-head (λ (x : Placed). HasSpelling x.rec) q ps all),
  none-beyond p far ps (All-tail (λ (x : Placed). HasSpelling x.rec) q ps all),
)

-- such a page has no record in its chain
pub unchanged-chain : (img : Storage) (p : ℕ) → ((j : ℕ) → Quiet p (img.logs j)) → chain img p ≡ []
unfolding chain
unchanged-chain img p none = ap sorted (filter_none p (all_of img.logs 9) (Each-all_of (λ x. of_page p x ≡ false) img.logs 9 none))

-- and is as on disk
pub unchanged-same : (img : Storage) (p : ℕ) → ((j : ℕ) → Quiet p (img.logs j)) → newest img p ≡ img.disk p
unfolding newest
unchanged-same img p none = ap (replay (img.disk p).lsn (img.disk p)) (unchanged-chain img p none)

-- there is no page past the last
pub lost-past : (img : Storage) (p : ℕ) → 1024 ≤ p → is_lost_in img p ≡ false
lost-past img p ge = ap (λ b. b && ltb (img.disk p).lsn (newest img p).lsn) (le-ltb p 1024 ge)

-- ---- RecLSNs

-- what holds of the records of all logs holds of those of one
of-each : (P : Rec → Type 0) (logs : ℕ → List Rec) (n : ℕ) → Each P (all_of logs n) → (j : ℕ) → j < n → Each P (logs j)
unfolding all_of
of-each P logs zero all j lt = absurd (omega arith)
of-each P logs (suc n) all j lt = ⊎_elim
    (λ e. subst (λ (k : ℕ). Each P (logs k)) (sym e) (Each-front P (logs n) (all_of logs n) all))
    (λ ne. of-each P logs n (Each-back P (logs n) (all_of logs n) all) j (omega arith))
    (cases_eq j n)

-- no record that the disk lacks is below the page's RecLSN
pub none-before : (img : Storage) (p l : ℕ) → ((j : ℕ) → 9 ≤ j → img.logs j ≡ []) → IsLeastAbove (chain img p) (img.disk p).lsn l
    → (j : ℕ) → NoneBefore p l (img.disk p) (img.logs j)
unfolding chain
none-before img p l past is j = ⊎_elim
    (λ lt. of-each (λ x. of_page p x ≡ true → (img.disk p).lsn < x.lsn → l ≤ x.lsn) img.logs 9
    (Each-filter_back (λ x. (img.disk p).lsn < x.lsn → l ≤ x.lsn) (of_page p) (all_of img.logs 9)
    (Each-sorted_back (λ x. (img.disk p).lsn < x.lsn → l ≤ x.lsn) (filter (of_page p) (all_of img.logs 9)) is.least)) j lt)
    (λ ge. subst (NoneBefore p l (img.disk p)) (sym (past j ge)) tt)
    (cases_lt j 9)

-- ---- pages that aren't lost

-- were each page lost, from the first LSN on
all-lost : (img : Storage) → LostAreRead img (λ p. Some 0) (λ p. true)
all-lost img = record {
  marks = λ p. refl;
  free = λ p e. absurd (cc);
  first = λ p l e j. subst (λ (n : ℕ). NoneBefore p n (img.disk p) (img.logs j)) (zero-is l e)
      (Each-all (λ r. of_page p r ≡ true → (img.disk p).lsn < r.lsn → 0 ≤ r.lsn) (λ r is lt. omega arith) (img.logs j));
}
  where
    zero-is : (l : ℕ) → Some 0 ≡ Some l → 0 ≡ l
    zero-is l e = cc

-- the disk hasn't an older version
on-disk : (img : Storage) (p : ℕ) → Opens img → img.logs 0 ≡ [] → ltb (img.disk p).lsn (newest img p).lsn ≡ false
    → img.disk p ≡ newest img p
unfolding newest
on-disk img p opens none off =
    let up = (replay_rises (img.disk p).lsn (img.disk p) (chain img p) (omega arith) (opens.sound.pages p)).0 in
    let low = ltb-false (img.disk p).lsn (newest img p).lsn off in
    sym (same-lsn (as_read img) (opened_base img (λ q. Some 0) (λ i. false)) (opened_dir (λ q. true)) p
    (opening-coherent img (λ q. Some 0) (λ q. true) (λ i. false) opens none (all-lost img)) (omega (arith, up, low)))

other-off : (a b : Bool) → a ≡ true → (a && b) ≡ false → b ≡ false
other-off true b e off = off
other-off false b e off = absurd (cc)

pub unlost-same : (img : Storage) (p : ℕ) → Opens img → img.logs 0 ≡ [] → (1024 ≤ p → (j : ℕ) → Quiet p (img.logs j))
    → is_lost_in img p ≡ false → img.disk p ≡ newest img p
unlost-same img p opens none beyond off = ⊎_elim
    (λ lt. on-disk img p opens none (other-off (ltb p 1024) (ltb (img.disk p).lsn (newest img p).lsn) (lt-ltb p 1024 lt) off))
    (λ ge. sym (unchanged-same img p (beyond ge)))
    (cases_lt p 1024)
