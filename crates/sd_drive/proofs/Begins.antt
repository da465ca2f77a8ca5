-- A line that begins a transaction is done behind its reply. It serves the goals of `begin` in driver.rt.
use Rattle.std.proofs.Common.{◌≡◌, ⊎_elim, ℕ, ◌+◌, Bool, true, false, cond, List, [], ◌∷◌, ◌++◌, length, length-append, take, drop, refl, sym, ap, ap₂, ◌∙◌, subst}
use Rattle.std.specs.Prelude.{Option, None, Some, slice_get}
use Rattle.std.specs.Str.{bytes_eq}
use Rattle.std.specs.Cmp.Lexicographic.{bytes_decides}
use Rattle.std.proofs.lemmas.Bool.{cases_Bool}
use Rattle.sd_base.specs.declared.ids.TxnId.{TxnId}
use Rattle.sd_model.specs.declared.event.Event.TheVariants as event
use Rattle.sd_model.specs.declared.event.Reply.{Reply}
use Rattle.sd_model.specs.declared.event.Reply.TheVariants as reply
use Rattle.sd_script.specs.declared.line.Form.{Form}
use Rattle.sd_script.specs.declared.line.Form.TheVariants as form
use Rattle.sd_script.specs.declared.line.Line.{Line}
use Rattle.sd_script.specs.Order.{begun, begun_by, has_name}
use Rattle.sd_world.specs.Serving.{Telling}
use Rattle.sd_drive.specs.declared.driver.Driver.{Driver}
use Rattle.sd_drive.specs.Driving.{Cursor, Work, World, done, works_of}
use Rattle.sd_drive.specs.Lines.{Names, named_by, rolls_back}
use Rattle.sd_drive.specs.Operating.{Came}
use Rattle.sd_drive.specs.Reaching.{IsSame, Reached, named}
use Rattle.sd_model.specs.Replies.{began_by}
use Rattle.sd_drive.proofs.Lines.{goes-there, once-ends}
use Rattle.sd_drive.proofs.Naming.{begun-more, named-none, named-push}
use Rattle.sd_drive.specs.Running.{Start}

-- where the begin is refused the name has no transaction, as before
none-now : (names : List (List ℕ)) (txns : List (Option TxnId)) (name q : List ℕ) → has_name names name ≡ false
    → cond {A = Option TxnId} (bytes_eq name q) None (named names txns q) ≡ named names txns q
none-now names txns name q fresh = ⊎_elim
    (λ (same : bytes_eq name q ≡ true).
    ap (λ (b : Bool). cond {A = Option TxnId} b None (named names txns q)) same
    ∙ sym (named-none names txns q (subst (λ (x : List ℕ). has_name names x ≡ false) ((bytes_decides name q).0 same) fresh)))
    (λ (differ : bytes_eq name q ≡ false). ap (λ (b : Bool). cond {A = Option TxnId} b None (named names txns q)) differ)
    (cases_Bool (bytes_eq name q))

module _ (names : List (List ℕ)) (txns : List (Option TxnId)) (known : Names) (all : (q : List ℕ) → named names txns q ≡ known q)
    (inst : ℕ) (name : List ℕ) (fresh : has_name names name ≡ false) where
  names-after : (r : Reply) (q : List ℕ)
      → cond {A = Option TxnId} (bytes_eq name q) (began_by r) (named names txns q) ≡ named_by (form.Begin inst name) r known q
  names-after (reply.Began t) q = ap (λ (o : Option TxnId). cond {A = Option TxnId} (bytes_eq name q) (Some t) o) (all q)
  names-after r q = none-now names txns name q fresh ∙ all q

module _ {G : Type 0} (tell : Telling G) (start : Start G) (lines : List Line) (n : ℕ) (line : Line) (at : slice_get lines n ≡ Some line)
    (old : Driver G) (w : World) (r : Reached tell start lines n old w) (inst : ℕ) (name : List ℕ) (is : line.form ≡ form.Begin inst name)
    (fresh : has_name (begun (take n lines)) name ≡ false) where
  now-begun : begun (take (n + 1) lines) ≡ begun (take n lines) ++ name ∷ []
  now-begun = begun-more lines n line at ∙ ap (λ (f : Form). begun (take n lines) ++ begun_by f) is

  pub came-begin : (new : Driver G) → IsSame old new
      → (came : Came tell new.hall line.session line.number (event.Begin inst) line (works_of (drop (n + 1) lines)) Cursor.Once start w)
      → new.txns.items ≡ old.txns.items ++ began_by came.reply ∷ [] → (w' : World) × Reached tell start lines (n + 1) new w'
  came-begin new same came txns =
      let known = w.told.known.names in
      let k = r.knows in
      let form_is : named_by line.form came.reply known ≡ named_by (form.Begin inst name) came.reply known =
      ap (λ (f : Form). named_by f came.reply known) is in (
        record { told = done w.told (Work.Do line) (works_of (drop (n + 1) lines)) came.reply; core = came.core },
        record {
          there = goes-there tell start lines n line new (event.Begin inst) Cursor.Once w came None
              (once-ends came.core w.told.known line came.reply (ap rolls_back is));
          rests = refl;
          idle = refl;
          unfailed = r.unfailed;
          left = refl;
          knows = record {
            insts = k.insts ∙ sym same.0;
            pages = k.pages ∙ sym same.1;
            names = λ q. ap₂ (λ l ts. named l ts q) now-begun txns
                ∙ named-push (begun (take n lines)) old.txns.items name q (began_by came.reply) fresh k.count
                ∙ names-after (begun (take n lines)) old.txns.items known k.names inst name fresh came.reply q
                ∙ ap (λ (names : Names). names q) (sym form_is);
            count = ap (λ ts. length ts) txns ∙ length-append old.txns.items (began_by came.reply ∷ []) ∙ ap (λ (m : ℕ). m + 1) k.count
                ∙ sym (length-append (begun (take n lines)) (name ∷ [])) ∙ ap (λ l. length l) (sym now-begun);
          };
        },
      )
