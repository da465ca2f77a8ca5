-- What was taken back fits in the image, and what doesn't fit can't be taken back. It serves the goals of undone.
use Rattle.std.proofs.Common.{◌≡◌, ◌≢◌, ⊎_elim, ◌<◌, ℕ, List, [], sym, ap, subst, ◌∙◌, arith}
use Rattle.std.specs.Prelude.{All, filter}
use Rattle.sd_base.specs.declared.ids.TxnId.{TxnId}
use Rattle.sd_page.specs.Page.{Page, Slot}
use Rattle.sd_logrec.specs.View.{Rec}
use Rattle.sd_logrec.specs.View.Kind.{Update}
use Rattle.sd_log.specs.Logs.{AreSpelled, LogState, scanned}
use Rattle.sd_chain.specs.Records.{Each, at}
use Rattle.sd_chain.specs.Pages.{value}
use Rattle.sd_chain.specs.Storage.{Alone, HasPlace, Linked, Open, Sound, StackFits, Storage, newest, now, opens}
use Rattle.sd_chain.specs.Laws.{UndoingFinds}
use Rattle.sd_chain.specs.Undoing.{EachFound, Member, stacks_of, undo_all}
use Rattle.sd_recovered.specs.declared.losers.Loser.{Loser}
use Rattle.sd_recovered.specs.Others.{all_in, by_others, last_of_others}
use Rattle.sd_recovered.specs.UndoPass.{AreLosersOf, NewestAreRead, txns_of}
use Rattle.sd_recovered.specs.Taking.{MayTake, open_in}
use Rattle.sd_recovered.specs.Values.{slots_in, values_in}
use Rattle.sd_recovered.proofs.Alones.{alone-from, alone-last, nil_or, not-both}
use Rattle.sd_recovered.proofs.Finds.{Agree, agree-all, agree-found, member-linked}
use Rattle.sd_recovered.proofs.OpenStacks.{Each-both, Right, are-open, open-stacks, rights}
use Rattle.sd_recovered.proofs.Rows.{slots-here}
use Rattle.sd_recovered.proofs.Stacks.{each-stacks, stacks-each}
use Rattle.sd_chain.proofs.Members.{member-each}
use Rattle.sd_chain.proofs.Lists.{Each-weaker}

-- the stacks of some transactions that may be taken back are as they were left
module _ (img : Storage) (pages : List Page) (logs : List LogState) (read : NewestAreRead img pages logs) where
  pub slots-newest : (p : ℕ) → p < 1024 → slots_in pages p ≡ (newest img p).slots
  slots-newest p lt = slots-here pages p (newest img p) (read.pages_are p lt)

  pub agree : Agree (values_in pages) (now img)
  agree p s lt = ap (λ (slots : List Slot). value slots s) (slots-newest p lt)

  pub nil-fits : (t : TxnId) → opens img t ≡ [] → StackFits img t
  nil-fits t none = record {
    places = subst (Each (λ x. HasPlace (newest img x.page).slots x)) (sym none) tt;
    linked = λ p s. subst (λ (xs : List Rec). Linked (now img p s) (filter (at p s) xs)) (sym none) tt;
    alone = subst (Each (Alone img t)) (sym none) tt;
  }

  module _ (ts : List TxnId) (each-right : Each (λ t. Each (Right t) (opens img t)) ts) where
    pub bounded : Each (λ x. x.page < 1024) (stacks_of img ts)
    bounded = each-stacks img (λ x. x.page < 1024) ts
        (Each-weaker (λ t. Each (Right t) (opens img t)) (λ t. Each (λ x. x.page < 1024) (opens img t))
        (λ t. Each-weaker (Right t) (λ x. x.page < 1024) (λ x r. r.2) (opens img t)) ts each-right)

    module _ (it : MayTake pages (by_others logs) (stacks_of img ts)) where
      found-now : EachFound (now img) (stacks_of img ts)
      found-now = agree-found (values_in pages) (now img) (stacks_of img ts) agree bounded it.found

      each-place : Each (λ t. Each (λ x. HasPlace (newest img x.page).slots x) (opens img t)) ts
      each-place = Each-both (λ t. Each (λ x. HasPlace (slots_in pages x.page) x) (opens img t)) (λ t. Each (Right t) (opens img t))
          (λ t. Each (λ x. HasPlace (newest img x.page).slots x) (opens img t))
          (λ t. Each-both (λ x. HasPlace (slots_in pages x.page) x) (Right t) (λ x. HasPlace (newest img x.page).slots x)
          (λ x h r. subst (λ (slots : List Slot). HasPlace slots x) (slots-newest x.page r.2) h) (opens img t))
          ts (stacks-each img (λ x. HasPlace (slots_in pages x.page) x) ts it.places) each-right

      pub each-alone : Each (λ t. Each (Alone img t) (opens img t)) ts
      each-alone = Each-both (λ t. Each (λ x. by_others logs x.txn x.page x.slot < x.lsn) (opens img t)) (λ t. Each (Right t) (opens img t))
          (λ t. Each (Alone img t) (opens img t))
          (λ t. Each-both (λ x. by_others logs x.txn x.page x.slot < x.lsn) (Right t) (Alone img t)
          (λ x lt r. alone-from img logs read.logs_are t x (by t x lt r)) (opens img t))
          ts (stacks-each img (λ x. by_others logs x.txn x.page x.slot < x.lsn) ts it.last) each-right
        where
          by : (t : TxnId) (x : Rec) → by_others logs x.txn x.page x.slot < x.lsn → Right t x
              → last_of_others t x.page x.slot (all_in logs) < x.lsn
          by t x lt r = let e = ap (λ (k : TxnId). last_of_others k x.page x.slot (all_in logs)) r.0 in omega (arith, lt, e)

      pub member-fits : (t : TxnId) → Member t ts → StackFits img t
      member-fits t m =
          let alone = member-each (λ t. Each (Alone img t) (opens img t)) t ts m each-alone in record {
            places = member-each (λ t. Each (λ x. HasPlace (newest img x.page).slots x) (opens img t)) t ts m each-place;
            linked = λ p s. ⊎_elim
                (λ none. subst (Linked (now img p s)) (sym none) tt)
                (λ some. member-linked img t p s (now img) ts found-now m
                (Each-weaker (λ u. Each (Alone img u) (opens img u)) (λ u. t ≢ u → filter (at p s) (opens img u) ≡ [])
                (λ u a ne. not-both img p s t u ne alone a some) ts each-alone))
                (nil_or (filter (at p s) (opens img t)));
            alone = alone;
          }

  -- records of a stack that fits are above what others did to them
  pub fits-last : (t : TxnId) → Each (Right t) (opens img t) → Each (Alone img t) (opens img t)
      → Each (λ x. by_others logs x.txn x.page x.slot < x.lsn) (opens img t)
  fits-last t right alone =
      Each-both (Alone img t) (Right t) (λ x. by_others logs x.txn x.page x.slot < x.lsn) (λ x a r. by x a r) (opens img t) alone right
    where
      by : (x : Rec) → Alone img t x → Right t x → by_others logs x.txn x.page x.slot < x.lsn
      by x a r = let lt = alone-last img logs read.logs_are t x r.3 a in
          let e = ap (λ (k : TxnId). last_of_others k x.page x.slot (all_in logs)) r.0 in omega (arith, lt, e)

  -- and have their places in the pages
  pub fits-places : (t : TxnId) → Each (Right t) (opens img t) → Each (λ x. HasPlace (newest img x.page).slots x) (opens img t)
      → Each (λ x. HasPlace (slots_in pages x.page) x) (opens img t)
  fits-places t right places =
      Each-both (λ x. HasPlace (newest img x.page).slots x) (Right t) (λ x. HasPlace (slots_in pages x.page) x)
      (λ x h r. subst (λ (slots : List Slot). HasPlace slots x) (sym (slots-newest x.page r.2)) h) (opens img t) places right

module _ (img : Storage) (pages : List Page) (logs : List LogState) (losers : List (List Loser)) (read : NewestAreRead img pages logs)
    (found : AreLosersOf logs losers) where
  -- the values of the pages once all was taken back
  pub values-undone : (p s : ℕ) → p < 1024
      → undo_all (values_in pages) (open_in logs losers) p s ≡ undo_all (now img) (stacks_of img (txns_of losers)) p s
  values-undone p s lt =
      ap (λ (xs : List Rec). undo_all (values_in pages) xs p s) (open-stacks img logs losers read.logs_are found)
      ∙ agree-all (values_in pages) (now img) (stacks_of img (txns_of losers)) (agree img pages logs read) p s lt

  module _ (spelled : All (λ log. AreSpelled (scanned log)) logs) where
    pub each-right : Each (λ t. Each (Right t) (opens img t)) (txns_of losers)
    each-right = rights img logs losers read.logs_are found spelled

    pub stacks-fit : MayTake pages (by_others logs) (open_in logs losers) → (t : TxnId) → Open img t → StackFits img t
    stacks-fit may t o = ⊎_elim (nil-fits img pages logs read t)
        (member-fits img pages logs read (txns_of losers) each-right
        (subst (MayTake pages (by_others logs)) (open-stacks img logs losers read.logs_are found) may) t)
        ((are-open img logs losers read.logs_are found).all t o)

    -- in a sound image all may be taken back
    pub sound-takes : UndoingFinds → Sound img → MayTake pages (by_others logs) (open_in logs losers)
    sound-takes finds sound =
        let ts = txns_of losers in let listed = are-open img logs losers read.logs_are found in
        subst (MayTake pages (by_others logs)) (sym (open-stacks img logs losers read.logs_are found)) (record {
          kinds = each-stacks img (λ x. x.kind ≡ Update) ts
              (Each-weaker (λ t. Each (Right t) (opens img t)) (λ t. Each (λ x. x.kind ≡ Update) (opens img t))
              (λ t. Each-weaker (Right t) (λ x. x.kind ≡ Update) (λ x r. r.1) (opens img t)) ts each-right);
          found = agree-found (now img) (values_in pages) (stacks_of img ts) (λ p s lt. sym (agree img pages logs read p s lt))
              (bounded img pages logs read ts each-right) (finds img sound ts listed);
          places = each-stacks img (λ x. HasPlace (slots_in pages x.page) x) ts
              (Each-both (Open img) (λ t. Each (Right t) (opens img t)) (λ t. Each (λ x. HasPlace (slots_in pages x.page) x) (opens img t))
              (λ t o r. fits-places img pages logs read t r (sound.stacks t o).places) ts listed.each each-right);
          last = each-stacks img (λ x. by_others logs x.txn x.page x.slot < x.lsn) ts
              (Each-both (Open img) (λ t. Each (Right t) (opens img t)) (λ t. Each (λ x. by_others logs x.txn x.page x.slot < x.lsn) (opens img t))
              (λ t o r. fits-last img pages logs read t r (sound.stacks t o).alone) ts listed.each each-right);
        })
