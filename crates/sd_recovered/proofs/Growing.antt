-- What was read of the first devices of a list, and of one more. It serves the goals of logs.rt and reading.rt, and those of sd_restart.
use Rattle.std.proofs.Common.{◌≡◌, ℕ, suc, ◌+◌, ◌<◌, ◌≤◌, List, [], ◌∷◌, ◌++◌, length, get_or, take, sym, ap, ◌∙◌, subst, arith}
use Rattle.std.specs.Prelude.{Option, map}
use Rattle.std.proofs.lemmas.List.{length-take-le, map-append}
use Rattle.std.proofs.Math.Seq.{take-length, take-suc}
use Rattle.sd_log.specs.Logs.{LogState}
use Rattle.sd_recovered.specs.declared.losers.Loser.{Loser}
use Rattle.sd_recovered.specs.declared.master.MasterRecord.{MasterRecord}
use Rattle.sd_recovered.specs.Masters.{said}
use Rattle.sd_chain.specs.Faults.{LogFailsAt}
use Rattle.sd_recovered.specs.Reading.{AreRead, FailsAmong, HasRead, IsUnread, LogIsRead, SomeUnread, counting}
use Rattle.sd_recovered.specs.declared.logs.ReadLogs.{ReadLogs}
use Rattle.sd_recovered.proofs.Covers.{as_many}
use Rattle.sd_recovered.proofs.LogFaults.{fails_among}
use Rattle.sd_recovered.proofs.OneMore.{AreRead-more, some_unread}

-- as many logs as devices
pub count-read : (ds : List (List ℕ)) (r : ReadLogs) → HasRead ds r → length r.logs.items ≡ length ds
count-read ds r has = as_many 1 ds r.logs.items r.losers.items has.read

-- the masters, with one more
pub masters-more : (masters : List (Option MasterRecord)) (m : Option MasterRecord) (ds : List (List ℕ)) (d : List ℕ)
    → map said masters ≡ map counting ds → said m ≡ counting d → map said (masters ++ m ∷ []) ≡ map counting (ds ++ d ∷ [])
masters-more masters m ds d so_far is =
    map-append said masters (m ∷ []) ∙ ap (λ l. l ++ said m ∷ []) so_far ∙ ap (λ x. map counting ds ++ x ∷ []) is
    ∙ sym (map-append counting ds (d ∷ []))

-- the logs, with one more, which is that of the next instance
pub logs-more : (ds : List (List ℕ)) (r : ReadLogs) (d : List ℕ) (log : LogState) (ls : List Loser) → HasRead ds r
    → LogIsRead (1 + length r.logs.items) d log ls → AreRead 1 (ds ++ d ∷ []) (r.logs.items ++ log ∷ []) (r.losers.items ++ ls ∷ [])
logs-more ds r d log ls has here =
    AreRead-more 1 ds r.logs.items r.losers.items d log ls has.read
    (subst (λ (n : ℕ). LogIsRead (1 + n) d log ls) (count-read ds r has) here)

-- the first devices of a list, as many as there are logs
module _ (ds : List (List ℕ)) (i : ℕ) (r : ReadLogs) (has : HasRead (take i ds) r) where
  pub count-taken : i ≤ length ds → length r.logs.items ≡ i
  count-taken le = count-read (take i ds) r has ∙ length-take-le i ds le

  -- all of them
  pub read-all : i ≤ length ds → length ds ≤ i → HasRead ds r
  read-all le ge =
      let e : i ≡ length ds = omega (arith, le, ge) in
      subst (λ (xs : List (List ℕ)). HasRead xs r) (ap (λ (n : ℕ). take n ds) e ∙ take-length ds) has

  -- the next one, where it isn't sound
  module _ (d held : List ℕ) (lt : i < length ds) (here : d ≡ get_or ds i held) where
    next : 1 + length r.logs.items ≡ 1 + i
    next = let n = count-taken (omega (arith, lt)) in omega (arith, n)

    pub unread-next : IsUnread (1 + length r.logs.items) d → SomeUnread 1 ds
    unread-next bad =
        some_unread 1 i ds held lt (subst (λ (x : List ℕ). IsUnread (1 + i) x) here (subst (λ (n : ℕ). IsUnread n d) next bad))

  pub fails-next : (d : List ℕ) (dev at : ℕ) → i < length ds → d ≡ get_or ds i d → dev ≡ 1 + length r.logs.items
      → LogFailsAt dev d at → FailsAmong ds dev at
  fails-next d dev at lt here is fails =
      let e : dev ≡ 1 + i = is ∙ next d d lt here in
      fails_among ds i d r.logs.items r.losers.items dev at lt here has.read e (subst (λ (n : ℕ). LogFailsAt n d at) e fails)

-- one more of a list
pub read-next : (ds : List (List ℕ)) (i : ℕ) (d held : List ℕ) (r : ReadLogs) → i < length ds → d ≡ get_or ds i held
    → HasRead (take i ds ++ d ∷ []) r → HasRead (take (i + 1) ds) r
read-next ds i d held r lt here =
    let longer : take i ds ++ d ∷ [] ≡ take (i + 1) ds =
    ap (λ (x : List ℕ). take i ds ++ x ∷ []) here ∙ sym (take-suc ds i held lt)
    ∙ (let e : suc i ≡ i + 1 = omega arith in ap (λ n. take n ds) e) in
    subst (λ (xs : List (List ℕ)). HasRead xs r) longer
