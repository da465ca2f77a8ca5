-- A step of a recovery lowers what is left of it: for the goals of its tasks.
use Rattle.std.proofs.Common.{◌≡◌, ◌≢◌, ⊎_elim, ℕ, zero, suc, ◌<◌, ◌≤◌, Bool, true, false, cond, List, length, refl, sym, ap, ◌∙◌, subst, arith}
use Rattle.std.specs.Prelude.{get_or, slice_set}
use Rattle.std.proofs.lemmas.Bool.{cases_eq}
use Rattle.std.proofs.lemmas.List.{get_or-set_other, get_or-set_same}
use Rattle.sd_rig.specs.Devices.{DeviceImages}
use Rattle.sd_logrec.specs.View.{Rec}
use Rattle.sd_chain.specs.Bytes.{log_of}
use Rattle.sd_chain.specs.Undoing.{Apart}
use Rattle.sd_moves.specs.Places.{with_directory}
use Rattle.sd_moves.specs.Putting.{with_loose_disk}
use Rattle.sd_moves.specs.Settling.{IsReread, with_reread}
use Rattle.sd_pagelock.specs.Directory.{entry_at}
use Rattle.sd_pagelock.specs.Places.{PageEntry, is_lost}
use Rattle.sd_txn.specs.Transactions.{Transactions, ids}
use Rattle.sd_state.specs.Parts.{Parts, is_loose, no_txns, txns_at}
use Rattle.sd_state.proofs.Items.{item-kept}
use Rattle.sd_fits.specs.Resting.{count_to, one_if}
use Rattle.sd_fits.proofs.Resting.{count-one, count-same}
use Rattle.sd_recover.specs.Tasks.{AreThere, tasks_in}
use Rattle.sd_recover.specs.Work.{is_lost_at, steps_left, tasks_again, tasks_left}
use Rattle.sd_recover.proofs.Reading.{tasks-read}

module _ (i : ℕ) (seen seen' : DeviceImages) (c new : Parts) where
  -- by the mark of the log
  tasks-by : (k : Parts) (s : DeviceImages) (b : Bool) → is_loose k i ≡ b
      → tasks_left s k i ≡ cond b (tasks_again (log_of s i) (txns_at k i)) (tasks_in (txns_at k i))
  tasks-by k s b is = ap (λ (q : Bool). cond q (tasks_again (log_of s i) (txns_at k i)) (tasks_in (txns_at k i))) is

  log-same : seen' i ≡ seen i → log_of seen' i ≡ log_of seen i
  log-same same = ap (λ (bytes : List ℕ). log_of (λ d. bytes) i) same

  -- the tasks are the same where neither the mark of the log, nor its rows nor what its device reads are others
  tasks-same : is_loose new i ≡ is_loose c i → txns_at new i ≡ txns_at c i → seen' i ≡ seen i → tasks_left seen' new i ≡ tasks_left seen c i
  tasks-same mark rows same =
      tasks-by new seen' (is_loose c i) mark
      ∙ ap (λ (t : Transactions). cond (is_loose c i) (tasks_again (log_of seen' i) t) (tasks_in t)) rows
      ∙ ap (λ (l : List Rec). cond (is_loose c i) (tasks_again l (txns_at c i)) (tasks_in (txns_at c i))) (log-same same)

  marks-one : (dev : ℕ) → dev ≤ 8 → length c.loose ≡ 9 → is_loose c dev ≡ true → new.loose ≡ slice_set c.loose dev false
      → suc (count_to (is_loose new) 9) ≡ count_to (is_loose c) 9
  marks-one dev le nine on is = count-one (is_loose c) (is_loose new) dev 9 (omega (arith, le)) on
      (ap (λ (l : List Bool). get_or l dev true) is ∙ get_or-set_same c.loose dev false true (omega (arith, le, nine)))
      (λ d ne. ap (λ (l : List Bool). get_or l d true) is ∙ get_or-set_other c.loose dev d false true ne)

  marks-same : new.loose ≡ c.loose → count_to (is_loose new) 9 ≡ count_to (is_loose c) 9
  marks-same is = ap (λ (l : List Bool). count_to (λ d. get_or l d true) 9) is

  lost-same : ((p : ℕ) → is_lost_at new p ≡ is_lost_at c p) → count_to (is_lost_at new) 1024 ≡ count_to (is_lost_at c) 1024
  lost-same same = count-same (is_lost_at c) (is_lost_at new) 1024 (λ p lt. same p)

  -- ---- a device is settled: the data device,

  pub disk-lowers : 1 ≤ i → length c.loose ≡ 9 → is_loose c 0 ≡ true → new ≡ with_loose_disk false c → seen' i ≡ seen i
      → steps_left seen' new i < steps_left seen c i
  disk-lowers low nine on is same =
      let marks = marks-one 0 (omega arith) nine on (ap (λ (k : Parts). k.loose) is) in
      let lost = lost-same (λ p. ap (λ (k : Parts). is_lost_at k p) is) in
      let tasks = tasks-same
      (ap (λ (k : Parts). is_loose k i) is ∙ get_or-set_other c.loose 0 i false true (λ e. omega (arith, low, e)))
      (ap (λ (k : Parts). txns_at k i) is) same in
      omega (arith, marks, lost, tasks)

  -- or a log, which is read again

  pub log-lowers : (dev : ℕ) → 1 ≤ i → i ≤ 8 → 1 ≤ dev → dev ≤ 8 → length c.loose ≡ 9 → Apart (ids (txns_at c i)) → Apart (ids (txns_at new i))
      → is_loose c dev ≡ true → new ≡ with_reread dev new c → IsReread dev (seen dev) c new → seen' i ≡ seen i
      → steps_left seen' new i < steps_left seen c i
  log-lowers dev low high lo hi nine apart apart' on is read same =
      let marks = marks-one dev hi nine on (ap (λ (k : Parts). k.loose) is) in
      let lost = lost-same (λ p. ap (λ (k : Parts). is_lost_at k p) is) in
      ⊎_elim
      (λ e.
      let mine : is_loose new i ≡ false = ap (λ (k : Parts). is_loose k i) is
      ∙ subst (λ (d : ℕ). get_or (slice_set c.loose d false) i true ≡ false) (sym e)
      (get_or-set_same c.loose i false true (omega (arith, high, nine))) in
      let was : is_loose c i ≡ true = subst (λ (d : ℕ). is_loose c d ≡ true) e on in
      let here = tasks-by c seen true was in
      let then = tasks-by new seen' false mine in
      let again = tasks-read i seen c new low high apart apart' (subst (λ (d : ℕ). IsReread d (seen d) c new) e read) in
      omega (arith, marks, lost, here, then, again))
      (λ ne.
      let tasks = tasks-same
      (ap (λ (k : Parts). is_loose k i) is ∙ get_or-set_other c.loose dev i false true (λ z. ne (sym z)))
      (ap (λ (k : Parts). txns_at k i) is ∙ item-kept no_txns c.txns dev (txns_at new dev) lo i (λ z. ne (sym z))) same in
      omega (arith, marks, lost, tasks))
      (cases_eq dev i)

  -- ---- a page is free

  pub free-lowers : (p : ℕ) → p < 1024 → new ≡ with_directory new.directory c → is_lost_at c p ≡ true
      → entry_at new.directory p ≡ PageEntry.Free → ((q : ℕ) → q ≢ p → entry_at new.directory q ≡ entry_at c.directory q)
      → seen' i ≡ seen i → steps_left seen' new i < steps_left seen c i
  free-lowers p lt is was free others same =
      let marks = marks-same (ap (λ (k : Parts). k.loose) is) in
      let lost = count-one (is_lost_at c) (is_lost_at new) p 1024 lt was (ap is_lost free) (λ q ne. ap is_lost (others q ne)) in
      let tasks = tasks-same (ap (λ (k : Parts). is_loose k i) is) (ap (λ (k : Parts). txns_at k i) is) same in
      omega (arith, marks, lost, tasks)

  -- ---- a task of a row is done

  pub row-lowers : is_loose c i ≡ false → new.loose ≡ c.loose → ((p : ℕ) → is_lost_at new p ≡ is_lost_at c p)
      → suc (tasks_in (txns_at new i)) ≡ tasks_in (txns_at c i) → steps_left seen' new i < steps_left seen c i
  row-lowers settled is others fewer =
      let marks = marks-same is in
      let lost = lost-same others in
      let here = tasks-by c seen false settled in
      let then = tasks-by new seen' false (ap (λ (l : List Bool). get_or l i true) is ∙ settled) in
      omega (arith, marks, lost, here, then, fewer)

-- ---- nothing is left

count-none : (f : ℕ → Bool) (n : ℕ) → ((d : ℕ) → d < n → f d ≡ false) → count_to f n ≡ 0
unfolding count_to
count-none f zero none = refl
count-none f (suc n) none =
    let here = ap one_if (none n (omega arith)) in
    let rest = count-none f n (λ d lt. none d (omega (arith, lt))) in omega (arith, here, rest)

pub steps-none : (i : ℕ) (seen : DeviceImages) (c : Parts) → i ≤ 8 → AreThere c → tasks_in (txns_at c i) ≡ 0 → steps_left seen c i ≡ 0
steps-none i seen c high there none =
    let marks = count-none (is_loose c) 9 (λ d lt. there.0 d (omega (arith, lt))) in
    let lost = count-none (is_lost_at c) 1024 (λ p lt. there.1 p) in
    let tasks = tasks-by i seen seen c c c seen false (there.0 i high) in
    omega (arith, marks, lost, tasks, none)
