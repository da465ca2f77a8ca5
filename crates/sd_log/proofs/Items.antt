-- Records with their places as they are kept, and the same with what is told of being forced. It serves the goals of written.rt.
use Rattle.std.proofs.Common.{◌≡◌, ℕ, zero, suc, ◌+◌, ◌<◌, ◌≤◌, max, Bool, true, false, List, [], ◌∷◌, ◌++◌, length, take, drop, refl, sym, ap, ◌∙◌, arith, append_assoc, length-append}
use Rattle.std.specs.Prelude.{◌||◌, None, Option, Some, map, slice_get}
use Rattle.std.specs.List.{list_any}
use Rattle.std.specs.Option.{option_map_or}
use Rattle.std.proofs.lemmas.List.{append-nil, drop-append-le, length-map, length-take-le, map-append, take-append-drop, take-append-le, take_all}
use Rattle.std.proofs.Math.ListN.{drop_of_length-le}
use Rattle.std.proofs.Math.Seq.{drop-append_seam, take-append_seam}
use Rattle.sd_base.specs.declared.ids.TxnId.{TxnId}
use Rattle.sd_logrec.specs.declared.record.Record.{Record}
use Rattle.sd_logrec.specs.Kept.{Group, Records}
use Rattle.sd_logrec.specs.View.{flat, is_commit_of}
use Rattle.sd_log.specs.declared.placed.Placed.{Placed}
use Rattle.sd_log.specs.Logs.{placed, placed_groups}
use Rattle.sd_log.specs.Marks.{MarksState, as_forced, entry, greatest_lsn}
use Rattle.sd_log.specs.Parts.{items_of, record_of}
use Rattle.sd_log.specs.Spellings.{record_in}
use Rattle.sd_log.specs.WrittenStates.{greatest_in}
use Rattle.sd_log.proofs.Parted.{as_forced-all}
use Rattle.sd_log.proofs.Journaling.{all_forced}

pub length-items : (n : ℕ) (es : Records) → length (items_of n es) ≡ length es
length-items n es =
    omega (
      arith,
      length-append (map (placed true) (take n es)) (map (placed false) (drop n es)),
      length-map (take n es) (placed true),
      length-map (drop n es) (placed false),
      length-append (take n es) (drop n es),
      ap length (take-append-drop n es),
    )

front_len : (n : ℕ) (es : Records) → n ≤ length es → length (map (placed true) (take n es)) ≡ n
front_len n es le = omega (arith, length-map (take n es) (placed true), length-take-le n es le)

pub take-items : (n : ℕ) (es : Records) → n ≤ length es → take n (items_of n es) ≡ map (placed true) (take n es)
take-items n es le =
    ap (λ k. take k (items_of n es)) (sym (front_len n es le)) ∙ take-append_seam (map (placed true) (take n es)) (map (placed false) (drop n es))

pub drop-items : (n : ℕ) (es : Records) → n ≤ length es → drop n (items_of n es) ≡ map (placed false) (drop n es)
drop-items n es le =
    ap (λ k. drop k (items_of n es)) (sym (front_len n es le)) ∙ drop-append_seam (map (placed true) (take n es)) (map (placed false) (drop n es))

pub items-more : (n : ℕ) (es : Records) (e : ℕ × Record) → n ≤ length es → items_of n (es ++ e ∷ []) ≡ items_of n es ++ placed false e ∷ []
items-more n es e le =
    ap (λ (l : Records). map (placed true) l ++ map (placed false) (drop n (es ++ e ∷ []))) (take-append-le n es (e ∷ []) le)
    ∙ ap (λ (l : Records). map (placed true) (take n es) ++ map (placed false) l) (drop-append-le n es (e ∷ []) le)
    ∙ ap (λ (l : List Placed). map (placed true) (take n es) ++ l) (map-append (placed false) (drop n es) (e ∷ []))
    ∙ sym (append_assoc (map (placed true) (take n es)) (map (placed false) (drop n es)) (placed false e ∷ []))

-- all of them forced
pub items_forced : (m : MarksState) (es : Records) → m.forced ≤ length es → all_forced m (items_of m.forced es) ≡ items_of (length es) es
items_forced m es le =
    ap (λ (l : List Placed). l ++ map as_forced (drop m.forced (items_of m.forced es))) (take-items m.forced es le)
    ∙ ap (λ (l : List Placed). map (placed true) (take m.forced es) ++ map as_forced l) (drop-items m.forced es le)
    ∙ ap (λ (l : List Placed). map (placed true) (take m.forced es) ++ l) (as_forced-all (drop m.forced es))
    ∙ sym (map-append (placed true) (take m.forced es) (drop m.forced es))
    ∙ ap (map (placed true)) (take-append-drop m.forced es ∙ sym (take_all (length es) es (omega arith)))
    ∙ sym (append-nil (map (placed true) (take (length es) es)))
    ∙ ap (λ (l : Records). map (placed true) (take (length es) es) ++ map (placed false) l) (sym (drop_of_length-le es {i = length es} (omega arith)))

-- the front alone
pub items_front : (n : ℕ) (es : Records) → n ≤ length es → items_of n (take n es) ≡ take n (items_of n es)
items_front n es le =
    let len = length-take-le n es le in
    ap (λ (l : Records). map (placed true) l ++ map (placed false) (drop n (take n es))) (take_all n (take n es) (omega (arith, len)))
    ∙ ap (λ (l : Records). map (placed true) (take n es) ++ map (placed false) l) (drop_of_length-le (take n es) {i = n} (omega (arith, len)))
    ∙ append-nil (map (placed true) (take n es)) ∙ sym (take-items n es le)

pub records_of-items : (is_forced : Bool) (es : Records) → map record_of (map (placed is_forced) es) ≡ map record_in es
records_of-items is_forced [] = refl
records_of-items is_forced (e ∷ es) = ap (λ (l : List Record). e.1 ∷ l) (records_of-items is_forced es)

pub greatest-items : (is_forced : Bool) (es : Records) → greatest_lsn (map (placed is_forced) es) ≡ greatest_in es
greatest-items is_forced [] = refl
greatest-items is_forced (e ∷ es) = ap (max (flat e.1).lsn) (greatest-items is_forced es)

-- ---- one of them

get-map : (is_forced : Bool) (es : Records) (i : ℕ) (e : ℕ × Record) → slice_get es i ≡ Some e → slice_get (map (placed is_forced) es) i ≡ Some (placed is_forced e)
get-map is_forced [] i e h = absurd (cc)
get-map is_forced (x ∷ es) zero e h = ap (λ (y : Option (ℕ × Record)). option_map_or (λ z. Some (placed is_forced z)) y None) h
get-map is_forced (x ∷ es) (suc i) e h = get-map is_forced es i e h

pub get-items : (n : ℕ) (es : Records) (i : ℕ) (e : ℕ × Record) (is_forced : Bool) → (i < n → is_forced ≡ true) → (n ≤ i → is_forced ≡ false) → slice_get es i ≡ Some e
    → slice_get (items_of n es) i ≡ Some (placed is_forced e)
get-items n [] i e f low high h = absurd (cc)
get-items zero (x ∷ es) i e f low high h = get-map false (x ∷ es) i e h ∙ ap (λ b. Some (placed b e)) (sym (high (omega arith)))
get-items (suc n) (x ∷ es) zero e f low high h =
    ap (λ (y : Option (ℕ × Record)). option_map_or (λ z. Some (placed true z)) y None) h ∙ ap (λ b. Some (placed b e)) (sym (low (omega arith)))
get-items (suc n) (x ∷ es) (suc i) e f low high h = get-items n es i e f (λ lt. low (omega arith)) (λ le. high (omega arith)) h

any-map : (is_forced : Bool) (t : TxnId) (es : Records) → list_any (λ p. is_commit_of t p.rec) (map (placed is_forced) es) ≡ list_any (λ e. is_commit_of t e.1) es
any-map is_forced t [] = refl
any-map is_forced t (e ∷ es) = ap (λ b. is_commit_of t e.1 || b) (any-map is_forced t es)

pub any-items : (n : ℕ) (t : TxnId) (es : Records) → list_any (λ p. is_commit_of t p.rec) (items_of n es) ≡ list_any (λ e. is_commit_of t e.1) es
any-items zero t es = any-map false t es
any-items (suc n) t [] = refl
any-items (suc n) t (e ∷ es) = ap (λ b. is_commit_of t e.1 || b) (any-items n t es)

-- ---- those that were read

entry-forced : (rs : Records) → map (placed true) (map entry (map (placed true) rs)) ≡ map (placed true) rs
entry-forced [] = refl
entry-forced (r ∷ rs) = ap (λ (l : List Placed). placed true r ∷ l) (entry-forced rs)

entry-groups : (gs : List Group) → map (placed true) (map entry (placed_groups gs)) ≡ placed_groups gs
entry-groups [] = refl
entry-groups (g ∷ gs) =
    ap (map (placed true)) (map-append entry (map (placed true) g.records) (placed_groups gs))
    ∙ map-append (placed true) (map entry (map (placed true) g.records)) (map entry (placed_groups gs))
    ∙ ap (λ (l : List Placed). l ++ map (placed true) (map entry (placed_groups gs))) (entry-forced g.records)
    ∙ ap (λ (l : List Placed). map (placed true) g.records ++ l) (entry-groups gs)

pub items_read : (n : ℕ) (ps : List Placed) (gs : List Group) → n ≡ length ps → ps ≡ placed_groups gs → items_of n (map entry ps) ≡ ps
items_read n ps gs all is =
    let len : n ≡ length (map entry ps) = omega (arith, length-map ps entry) in
    ap (λ (l : Records). map (placed true) l ++ map (placed false) (drop n (map entry ps))) (take_all n (map entry ps) (omega arith))
    ∙ ap (λ (l : Records). map (placed true) (map entry ps) ++ map (placed false) l) (drop_of_length-le (map entry ps) {i = n} (omega arith))
    ∙ append-nil (map (placed true) (map entry ps))
    ∙ ap (λ (l : List Placed). map (placed true) (map entry l)) is ∙ entry-groups gs ∙ sym is

-- ---- one after the other

drop_here : (es : Records) (i : ℕ) (e : ℕ × Record) → slice_get es i ≡ Some e → drop i es ≡ e ∷ drop (i + 1) es
drop_here [] i e h = absurd (cc)
drop_here (x ∷ es) zero e h = ap (λ (o : Option (ℕ × Record)). option_map_or (λ y. y ∷ es) o (x ∷ es)) h
drop_here (x ∷ es) (suc i) e h =
    let next : suc (i + 1) ≡ suc i + 1 = omega arith in
    drop_here es i e h ∙ ap (λ n. e ∷ drop n (x ∷ es)) next

pub step_greatest : (es : Records) (i greatest lsn best : ℕ) (e : ℕ × Record) → slice_get es i ≡ Some e → lsn ≡ (flat e.1).lsn → best ≡ max greatest lsn
    → max best (greatest_in (drop (i + 1) es)) ≡ max greatest (greatest_in (drop i es))
step_greatest es i greatest lsn best e h is b =
    let here : greatest_in (drop i es) ≡ max (flat e.1).lsn (greatest_in (drop (i + 1) es)) = ap greatest_in (drop_here es i e h) in
    omega arith

pub step_any : (es : Records) (i : ℕ) (e : ℕ × Record) (t : TxnId) → slice_get es i ≡ Some e → list_any (λ x. is_commit_of t x.1) (drop i es) ≡ (is_commit_of t e.1 || list_any (λ x. is_commit_of t x.1) (drop (i + 1) es))
step_any es i e t h = ap (list_any (λ x. is_commit_of t x.1)) (drop_here es i e h)
