-- A report in which no refusal tells a transaction needs no names. It serves the goals of names_for.
use Rattle.std.proofs.Common.{◌≡◌, ℕ, zero, suc, ◌-◌, Bool, true, false, ◌||◌, cond, List, [], ◌∷◌, ◌++◌, length, refl, sym, ap, ◌∙◌}
use Rattle.std.specs.Prelude.{Option, None, Some, slice_get, filter, codes, eqb}
use Rattle.std.specs.Fmt.{decimal}
use Rattle.std.specs.List.{flat_map, list_any}
use Rattle.sd_base.specs.declared.ids.TxnId.{TxnId}
use Rattle.sd_base.specs.declared.refusal.Refusal.{Refusal}
use Rattle.sd_base.specs.declared.refusal.Refusal.TheVariants as refusal
use Rattle.sd_model.specs.declared.event.Event.{Event}
use Rattle.sd_model.specs.declared.event.Reply.{Reply}
use Rattle.sd_model.specs.declared.event.Reply.TheVariants as reply
use Rattle.sd_model.specs.declared.event.Entry.{Entry}
use Rattle.sd_script.specs.declared.line.Form.{Form}
use Rattle.sd_script.specs.declared.line.Form.TheVariants as form
use Rattle.sd_script.specs.declared.line.Line.{Line}
use Rattle.sd_script.specs.Forms.{pick_word}
use Rattle.sd_report.specs.Words.{line_of, NamesOf}
use Rattle.sd_report.specs.Refusals.{refusal_text, tells_txn}
use Rattle.sd_report.specs.Replies.{no_reply, pulled_text, reply_text, last_text, words_of, behind_words, last_behind_words, behind_all, last_behind_all}
use Rattle.sd_report.specs.Report.{all_line, echo_line, entries_of, gathered, join_line, last_entry, listed, lost_undo, page_line, recover_line, reply_tells_txn, reported, reported_by, reported_in, rolled_name, table_lines, tell_txns, txn_line}

neither : (a b : Bool) → (a || b) ≡ false → (a ≡ false) × (b ≡ false)
neither true b e = absurd (cc)
neither false b e = (refl, e)

none_filtered : (t q : Entry → Bool) (es : List Entry) → list_any t es ≡ false → list_any t (filter q es) ≡ false
none_filtered t q [] none = refl
none_filtered t q (x ∷ xs) none =
    let both = neither (t x) (list_any t xs) none in
    kept (q x) (filter q xs) both.0 (none_filtered t q xs both.1) where
      kept : (b : Bool) (rest : List Entry) → t x ≡ false → list_any t rest ≡ false
          → list_any t (cond {A = List Entry} b (x ∷ rest) rest) ≡ false
      kept true rest first others = ap (λ (a : Bool). a || list_any t rest) first ∙ others
      kept false rest first others = others

none_at : (t : Entry → Bool) (es : List Entry) (k : ℕ) (e : Entry) → list_any t es ≡ false → slice_get es k ≡ Some e → t e ≡ false
none_at t [] k e none is = absurd (cc)
none_at t (x ∷ xs) zero e none is =
    let same : x ≡ e = cc in
    ap t (sym same) ∙ (neither (t x) (list_any t xs) none).0
none_at t (x ∷ xs) (suc k) e none is = none_at t xs k e (neither (t x) (list_any t xs) none).1 is

same_refusal : (f g : NamesOf) (e : Event) (n : Refusal) → tells_txn n ≡ false → refusal_text f e n ≡ refusal_text g e n
same_refusal f g e (refusal.Blocked by) plain = absurd (cc)
same_refusal f g e (refusal.Busy by) plain = absurd (cc)
same_refusal f g e (refusal.Deadlock cycle) plain = absurd (cc)
same_refusal f g e n plain = refl

same_pulled : (f g : NamesOf) (e : Event) (n : Refusal) → tells_txn n ≡ false → pulled_text f e n ≡ pulled_text g e n
same_pulled f g e (refusal.Blocked by) plain = absurd (cc)
same_pulled f g e (refusal.Busy by) plain = absurd (cc)
same_pulled f g e (refusal.Deadlock cycle) plain = absurd (cc)
same_pulled f g e n plain = refl

module _ (of other : Event → Refusal → List ℕ) (same : (e : Event) (n : Refusal) → tells_txn n ≡ false
    → of e n ≡ other e n) (words : Reply → List ℕ) where
  same_reply : (e : Event) (r : Reply) → reply_tells_txn r ≡ false → reply_text of words e r ≡ reply_text other words e r
  same_reply e (reply.Refused n) plain = same e n plain
  same_reply e r plain = refl

  same_last : (none : List ℕ) (last : Option Entry) → ((entry : Entry) → last ≡ Some entry → reply_tells_txn entry.reply ≡ false)
      → last_text of words none last ≡ last_text other words none last
  same_last none None plain = refl
  same_last none (Some entry) plain = same_reply entry.event entry.reply (plain entry refl)

last_plain : (own : List Entry) → tell_txns own ≡ false → (entry : Entry) → last_entry own ≡ Some entry
    → reply_tells_txn entry.reply ≡ false
last_plain own none entry is = none_at (λ e. reply_tells_txn e.reply) own (length own - 1) entry none is

same_listed : (f g : NamesOf) (own : List Entry) (e : Event) (r : Reply) → reply_tells_txn r ≡ false
    → listed f own e r ≡ listed g own e r
same_listed f g own e (reply.Refused n) plain = ap (λ (l : List ℕ). line_of (l ∷ [])) (same_pulled f g e n plain)
same_listed f g own e r plain = refl

same_behind : (f g : NamesOf) (e : Event) (r : Reply) → reply_tells_txn r ≡ false → behind_words f e r ≡ behind_words g e r
same_behind f g e (reply.Refused n) plain = ap (λ (l : List ℕ). 32 ∷ l) (same_refusal f g e n plain)
same_behind f g e r plain = refl

same_last_behind : (f g : NamesOf) (last : Option Entry) → ((entry : Entry) → last ≡ Some entry
    → reply_tells_txn entry.reply ≡ false)
    → last_behind_words f last ≡ last_behind_words g last
same_last_behind f g None plain = refl
same_last_behind f g (Some entry) plain = same_behind f g entry.event entry.reply (plain entry refl)

same_all : (f g : NamesOf) (e : Event) (r : Reply) → reply_tells_txn r ≡ false → behind_all f e r ≡ behind_all g e r
same_all f g e (reply.Refused n) plain = ap (λ (l : List ℕ). 32 ∷ l) (same_pulled f g e n plain)
same_all f g e reply.Finished plain = refl
same_all f g e (reply.Joined epoch) plain = refl
same_all f g e r plain = refl

same_last_all : (f g : NamesOf) (last : Option Entry) → ((entry : Entry) → last ≡ Some entry
    → reply_tells_txn entry.reply ≡ false)
    → last_behind_all f last ≡ last_behind_all g last
same_last_all f g None plain = refl
same_last_all f g (Some entry) plain = same_all f g entry.event entry.reply (plain entry refl)

same_table : (f g : NamesOf) (own : List Entry) (last : Option Entry) → ((entry : Entry) → last ≡ Some entry
    → reply_tells_txn entry.reply ≡ false)
    → table_lines f own last ≡ table_lines g own last
same_table f g own None plain = refl
same_table f g own (Some entry) plain = same_listed f g own entry.event entry.reply (plain entry refl)

module _ (f g : NamesOf) (own : List Entry) (none : tell_txns own ≡ false) where
  same_txn_line : (name : List ℕ) (of : Form) → txn_line f name of own ≡ txn_line g name of own
  same_txn_line name of =
      ap (λ (l : List ℕ). line_of (name ∷ l ∷ []))
      (same_last (pulled_text f) (pulled_text g) (same_pulled f g) (words_of of) (codes "ended")
      (last_entry own) (last_plain own none))

  same_page_line : (number : ℕ) (of : Form) → page_line f number of own ≡ page_line g number of own
  same_page_line number of =
      ap (λ (l : List ℕ). line_of (decimal number ∷ l ∷ []))
      (same_last (refusal_text f) (refusal_text g) (same_refusal f g) (words_of of) no_reply
      (last_entry own) (last_plain own none))

  same_recover_line : (inst : ℕ) (of : Form) → recover_line f inst of own ≡ recover_line g inst of own
  same_recover_line inst of =
      ap (λ (l : List ℕ). line_of ((codes "recover " ++ decimal inst) ∷ l ∷ []))
      (same_last (pulled_text f) (pulled_text g) (same_pulled f g) (words_of of) no_reply
      (last_entry own) (last_plain own none))

  same_join_line : (inst : ℕ) (of : Form) → join_line f inst of own ≡ join_line g inst of own
  same_join_line inst of =
      ap (λ (l : List ℕ). line_of ((codes "join " ++ decimal inst) ∷ l ∷ []))
      (same_last (refusal_text f) (refusal_text g) (same_refusal f g) (words_of of) no_reply
      (last_entry own) (last_plain own none))

  same_echo_line : (words : List ℕ) → echo_line f words own ≡ echo_line g words own
  same_echo_line words =
      ap (λ (l : List ℕ). line_of ((words ++ l) ∷ []))
      (same_last_behind f g (last_entry own) (last_plain own none))

  same_all_line : (words : List ℕ) → all_line f words own ≡ all_line g words own
  same_all_line words =
      ap (λ (l : List ℕ). line_of ((words ++ l) ∷ []))
      (same_last_all f g (last_entry own) (last_plain own none))

  same_line : (of : Form) → reported f of own ≡ reported g of own
  same_line (form.Complex insts pages frames) = refl
  same_line (form.Begin inst name) = same_txn_line name (form.Begin inst name)
  same_line (form.Read name ordinal rid) = same_txn_line name (form.Read name ordinal rid)
  same_line (form.Write name ordinal rid value) = same_txn_line name (form.Write name ordinal rid value)
  same_line (form.Add name ordinal rid by) = same_txn_line name (form.Add name ordinal rid by)
  same_line (form.Insert name ordinal page value capacity) = same_txn_line name (form.Insert name ordinal page value capacity)
  same_line (form.Delete name ordinal rid) = same_txn_line name (form.Delete name ordinal rid)
  same_line (form.Save name ordinal mark) = same_txn_line name (form.Save name ordinal mark)
  same_line (form.Back name ordinal mark) = same_txn_line name (form.Back name ordinal mark)
  same_line (form.Rollback name ordinal) = same_txn_line name (form.Rollback name ordinal)
  same_line (form.Commit name ordinal) = same_txn_line name (form.Commit name ordinal)
  same_line (form.Ask inst page mode) = same_page_line inst (form.Ask inst page mode)
  same_line (form.Give inst page) = same_page_line inst (form.Give inst page)
  same_line (form.Take inst page) = same_page_line inst (form.Take inst page)
  same_line (form.Evict inst page) = same_page_line inst (form.Evict inst page)
  same_line (form.Flush inst page) = same_page_line inst (form.Flush inst page)
  same_line (form.Force inst) = same_page_line inst (form.Force inst)
  same_line (form.CheckBegin inst) = same_page_line inst (form.CheckBegin inst)
  same_line (form.CheckEnd inst) = same_page_line inst (form.CheckEnd inst)
  same_line (form.Fail inst) = same_echo_line (codes "fail " ++ decimal inst)
  same_line (form.Fuse calls) = same_echo_line (codes "fuse " ++ decimal calls)
  same_line (form.Fault call) = same_echo_line (codes "fault " ++ decimal call)
  same_line (form.FailAll pick) = same_echo_line (codes "fail all " ++ pick_word pick)
  same_line (form.Recover inst by most) = same_recover_line inst (form.Recover inst by most)
  same_line (form.Join inst) = same_join_line inst (form.Join inst)
  same_line form.Reopen = same_echo_line (codes "reopen")
  same_line form.RecoverAll = same_all_line (codes "recover all")
  same_line form.JoinAll = same_all_line (codes "join all")
  same_line (form.Where page) = same_page_line page (form.Where page)
  same_line form.Table = same_table f g own (last_entry own) (last_plain own none)

  same_told : (all : List Entry) (of : Form) → reported_in f all of own ≡ reported_in g all of own
  same_told all of = go (rolled_name of) (lost_undo (last_entry own))
    where
      go : (name : Option (List ℕ)) (lost : Option (TxnId × ℕ)) → reported_by f all of own name lost ≡ reported_by g all of own name lost
      go None lost = same_line of
      go (Some name) None = same_line of
      go (Some name) (Some lost) = refl

pub same_report : (f g : NamesOf) (lines : List Line) (entries : List Entry) → tell_txns entries ≡ false
    → gathered (reported_in f entries) lines entries ≡ gathered (reported_in g entries) lines entries
same_report f g lines entries none = λ i. flat_map (λ (line : Line). same_told f g (entries_of line.number entries)
    (none_filtered (λ e. reply_tells_txn e.reply) (λ e. eqb e.line line.number) entries none) entries line.form i) lines
