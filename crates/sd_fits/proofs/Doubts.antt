-- What those in doubt put is at slots of their pages: how that goes on, where no page loses a slot. For each change of a complex
-- that fits.
use Rattle.std.proofs.Common.{◌≡◌, ℕ, ◌<◌, ◌≤◌, Bool, true, false, cond, ◌||◌, List, [], ◌∷◌, ◌++◌, length, map, append_assoc, refl, sym, ap, ◌∙◌, subst, arith}
use Rattle.std.proofs.lemmas.List.Folds.{list_any-append}
use Rattle.std.specs.List.{list_any}
use Rattle.sd_base.specs.declared.ids.TxnId.{TxnId}
use Rattle.sd_base.specs.Ids.{same_txn}
use Rattle.sd_base.proofs.SameIds.{each_txn}
use Rattle.sd_model.specs.Acts.{Puts, live}
use Rattle.sd_model.specs.State.{Part, State}
use Rattle.sd_logrec.specs.View.{Rec}
use Rattle.sd_page.specs.Page.{Page}
use Rattle.sd_rig.specs.Devices.{DeviceImages}
use Rattle.sd_chain.specs.Bytes.{disk_page}
use Rattle.sd_chain.specs.Fates.{commits}
use Rattle.sd_chain.specs.Storage.{HasPlace}
use Rattle.sd_chain.specs.Images.{Keeps}
use Rattle.sd_chain.specs.Records.{Each, home}
use Rattle.sd_chain.specs.Named.{version_of}
use Rattle.sd_chain.specs.Logs.{kept_logs, tails_of}
use Rattle.sd_state.specs.Images.{log_by}
use Rattle.sd_state.specs.Parts.{Parts}
use Rattle.sd_state.specs.Values.{is_committed, is_doubt, put_of}
use Rattle.sd_fits.specs.Fits.{FitsDoubts, HaveSlots}

-- The transaction's Commit was kept before, too, with tails by which page p had at most these slots.
pub record HadCommit (seen : DeviceImages) (c : Parts) (moved : Keeps) (u : TxnId) (p count : ℕ) : Type 0 where
  pub keeps : Keeps
  pub commits : is_committed (kept_logs (tails_of (log_by c moved)) keeps) u ≡ true
  pub slots : length (version_of (tails_of (log_by c moved)) (disk_page (seen 0)) keeps p).slots ≤ count

-- who is in doubt was it before, and has put the same
pub record DoubtsStay (m m' : State) : Type 0 where
  pub before : (u : TxnId) → is_doubt (m'.part u).life ≡ true → is_doubt (m.part u).life ≡ true
  pub puts : (u : TxnId) → is_doubt (m'.part u).life ≡ true → live (m'.part u).acts ≡ live (m.part u).acts

-- slots that one version or another of the pages has
have-slots : (K : Keeps → Type 0) (version : Keeps → ℕ → Page) (now : ℕ → Page)
    → ((p : ℕ) → (keeps : Keeps) × K keeps × (length (version keeps p).slots ≤ length (now p).slots)) → (puts : Puts)
    → ((keeps : Keeps) → K keeps → HaveSlots (version keeps) puts) → HaveSlots now puts
have-slots K version now grows [] had = tt
have-slots K version now grows (put ∷ puts) had =
    let g = grows put.0.page in
    let lt = (had g.0 g.1).0 in
    (still (put.0.slot) _ _ lt g.2, have-slots K version now grows puts (λ keeps k. (had keeps k).1))
  where
    still : (s a b : ℕ) → s < a → a ≤ b → s < b
    still s a b lt le = omega arith

-- slots that pages keep
pub slots-kept : (was now : ℕ → Page) → ((p : ℕ) → length (was p).slots ≤ length (now p).slots) → (puts : Puts)
    → HaveSlots was puts
    → HaveSlots now puts
slots-kept was now grows puts had = have-slots (λ keeps. Unit {0}) (λ keeps. was) now (λ p. ((λ j. false), tt, grows p)) puts
    (λ keeps u. had)

-- records that have a place are puts to slots
pub placed-slots : (version : ℕ → Page) (xs : List Rec) → Each (λ x. HasPlace (version x.page).slots x) xs
    → HaveSlots version (map put_of xs)
placed-slots version [] places = tt
placed-slots version (x ∷ xs) places = (places.0.slot, placed-slots version xs places.1)

-- one more record, which is no Commit of u
pub commits-more : (u : TxnId) (base tail : List Rec) (y : Rec) (kept : Bool) → commits u y ≡ false
    → list_any (commits u) (base ++ cond kept (tail ++ y ∷ []) []) ≡ list_any (commits u) (base ++ cond kept tail [])
commits-more u base tail y false none = refl
commits-more u base tail y true none = ap (list_any (commits u)) (sym (append_assoc base tail (y ∷ [])))
    ∙ list_any-append (commits u) (base ++ tail) (y ∷ [])
    ∙ ap (λ (b : Bool). list_any (commits u) (base ++ tail) || (b || false)) none ∙ or-false (list_any (commits u) (base ++ tail))
  where
    or-false : (a : Bool) → (a || false) ≡ a
    or-false true = refl
    or-false false = refl

module _ (seen seen' : DeviceImages) (c c' : Parts) (m m' : State) where
  pub doubts-on : FitsDoubts seen c m → DoubtsStay m m'
      → ((moved keeps : Keeps) (u : TxnId) → is_doubt (m'.part u).life ≡ true
      → is_committed (kept_logs (tails_of (log_by c' moved)) keeps) u ≡ true → (p : ℕ)
      → HadCommit seen c moved u p (length (version_of (tails_of (log_by c' moved)) (disk_page (seen' 0)) keeps p).slots))
      → FitsDoubts seen' c' m'
  doubts-on d stay had moved keeps u doubt commits =
      subst (HaveSlots (version_of (tails_of (log_by c' moved)) (disk_page (seen' 0)) keeps)) (sym (stay.puts u doubt))
      (have-slots (λ kept. is_committed (kept_logs (tails_of (log_by c moved)) kept) u ≡ true)
      (version_of (tails_of (log_by c moved)) (disk_page (seen 0)))
      (version_of (tails_of (log_by c' moved)) (disk_page (seen' 0)) keeps)
      (λ p. let h = had moved keeps u doubt commits p in (h.keeps, h.commits, h.slots)) (live (m.part u).acts)
      (λ kept is. d moved kept u (stay.before u doubt) is))

pub same-doubts : (m : State) → DoubtsStay m m
same-doubts m = record { before = λ u doubt. doubt; puts = λ u doubt. refl }

-- where one alone is another, who isn't in doubt then
pub part-stays : (t : TxnId) (p : Part) (m m' : State) → is_doubt p.life ≡ false
    → ((u : TxnId) → m'.part u ≡ cond (same_txn t u) p (m.part u)) → DoubtsStay m m'
part-stays t p m m' rests part = record {
  before = by (λ u (x : Part). is_doubt x.life ≡ true → is_doubt (m.part u).life ≡ true) (λ doubt. absurd (cc))
      (λ u doubt. doubt);
  puts = by (λ u (x : Part). is_doubt x.life ≡ true → live x.acts ≡ live (m.part u).acts) (λ doubt. absurd (cc))
      (λ u doubt. refl);
}
  where
    by : (P : TxnId → Part → Type 0) → P t p → ((u : TxnId) → P u (m.part u)) → (u : TxnId) → P u (m'.part u)
    by P own others u = subst (P u) (sym (part u)) (each_txn t P p m.part own (λ v ne. others v) u)

module _ (seen seen' : DeviceImages) (c c' : Parts) (m m' : State) (d : FitsDoubts seen c m) (stay : DoubtsStay m m') where
  -- where the same records are kept, over the same pages or with the same versions
  pub doubts-kept : (to : Keeps → Keeps)
      → ((moved keeps : Keeps) (j : ℕ) → kept_logs (tails_of (log_by c' moved)) keeps j ≡ kept_logs (tails_of (log_by c moved))
      (to keeps) j)
      → ((moved keeps : Keeps) (p : ℕ) → version_of (tails_of (log_by c' moved)) (disk_page (seen' 0)) keeps p
      ≡ version_of (tails_of (log_by c moved)) (disk_page (seen 0)) (to keeps) p)
      → FitsDoubts seen' c' m'
  doubts-kept to logs versions = doubts-on seen seen' c c' m m' d stay (λ moved keeps u doubt has p. record {
    keeps = to keeps;
    commits = ap (λ (log : List Rec). list_any (commits u) log) (sym (logs moved keeps (home u))) ∙ has;
    slots = let same = ap (λ (x : Page). length x.slots) (versions moved keeps p) in omega (arith, same);
  })
