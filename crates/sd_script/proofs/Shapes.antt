-- Which form has words that begin so. It serves the goals of form.rt, inst_forms.rt and verb_forms.rt, and the law of one form.
use Rattle.std.proofs.Common.{◌≡◌, ◌⊎◌, inl, inr, ℕ, ℤ, ◌<◌, ◌+◌, List, [], ◌∷◌, length, get_or, Option, refl, sym, ap, ◌∙◌, arith, lit<}
use Rattle.std.specs.Prelude.{codes}
use Rattle.std.specs.Fmt.{decimal, signed_decimal}
use Rattle.std.proofs.lemmas.Fmt.{decimal_digit}
use Rattle.sd_base.specs.declared.ids.Rid.{Rid}
use Rattle.sd_base.specs.declared.place.Mode.{Mode}
use Rattle.sd_base.specs.declared.trouble.Pick.{Pick}
use Rattle.sd_script.specs.declared.line.Form.{Form}
use Rattle.sd_script.specs.declared.line.Form.TheVariants.{Complex, Begin, Read, Write, Add, Insert, Delete, Save, Back, Rollback, Commit, Ask, Give, Take, Evict, Flush, Force, CheckBegin, CheckEnd, Fail, Fuse, Fault, FailAll, Recover, Join, Reopen, RecoverAll, JoinAll, Where, Table}
use Rattle.sd_script.specs.Forms.{form_words, rid_word, mode_word, pick_word, number_words, IsForm, IsInst, IsNoInst}

-- the first word of a form, where it is a verb
abbrev pub verb_in : Form → List ℕ
verb_in (Complex insts pages frames) = codes "complex"
verb_in (Read name ordinal rid) = codes "read"
verb_in (Write name ordinal rid value) = codes "write"
verb_in (Add name ordinal rid by) = codes "add"
verb_in (Insert name ordinal page value capacity) = codes "insert"
verb_in (Delete name ordinal rid) = codes "delete"
verb_in (Save name ordinal mark) = codes "save"
verb_in (Back name ordinal mark) = codes "back"
verb_in (Rollback name ordinal) = codes "rollback"
verb_in (Commit name ordinal) = codes "commit"
verb_in (Fail inst) = codes "fail"
verb_in (Fuse calls) = codes "fuse"
verb_in (Fault call) = codes "fault"
verb_in (FailAll pick) = codes "fail"
verb_in (Recover inst by most) = codes "recover"
verb_in (Join inst) = codes "join"
verb_in Reopen = codes "reopen"
verb_in RecoverAll = codes "recover"
verb_in JoinAll = codes "join"
verb_in (Where page) = codes "where"
verb_in Table = codes "table"
verb_in _ = []

-- the second word of a form, where the first is an instance
abbrev pub order_in : Form → List ℕ
order_in (Begin inst name) = codes "begin"
order_in (Ask inst page mode) = codes "ask"
order_in (Give inst page) = codes "give"
order_in (Take inst page) = codes "take"
order_in (Evict inst page) = codes "evict"
order_in (Flush inst page) = codes "flush"
order_in (Force inst) = codes "force"
order_in (CheckBegin inst) = codes "check"
order_in (CheckEnd inst) = codes "check"
order_in _ = []

-- an instance has one digit, so its word is no verb
pub inst_digit : (i : ℕ) → IsInst i → decimal i ≡ (48 + i) ∷ []
inst_digit i is = decimal_digit i (omega (arith, is))

pub no_verb : (i : ℕ) → IsInst i → (word : List ℕ) → 1 < length word → decimal i ≡ word → ⊥
no_verb i is word long e = let one : length word ≡ 1 = ap length (sym e) ∙ ap length (inst_digit i is) in omega arith

pub verb_is_no_inst : (verb : List ℕ) → 1 < length verb → IsNoInst verb
verb_is_no_inst verb long = λ i is e. no_verb i is verb long e

head_is : {X : Type 0} (x y : X) (xs ys : List X) → x ∷ xs ≡ y ∷ ys → x ≡ y
head_is x y xs ys e = cc

pub verb_is : (form : Form) (verb : List ℕ) (rest : List (List ℕ)) → IsForm form → IsNoInst verb
    → form_words form ≡ verb ∷ rest → verb_in form ≡ verb
verb_is (Begin i name) verb rest is none e = absurd (none i is.0 (head_is (decimal i) verb _ rest e))
verb_is (Ask i page mode) verb rest is none e = absurd (none i is.0 (head_is (decimal i) verb _ rest e))
verb_is (Give i page) verb rest is none e = absurd (none i is.0 (head_is (decimal i) verb _ rest e))
verb_is (Take i page) verb rest is none e = absurd (none i is.0 (head_is (decimal i) verb _ rest e))
verb_is (Evict i page) verb rest is none e = absurd (none i is.0 (head_is (decimal i) verb _ rest e))
verb_is (Flush i page) verb rest is none e = absurd (none i is.0 (head_is (decimal i) verb _ rest e))
verb_is (Force i) verb rest is none e = absurd (none i is (head_is (decimal i) verb _ rest e))
verb_is (CheckBegin i) verb rest is none e = absurd (none i is (head_is (decimal i) verb _ rest e))
verb_is (CheckEnd i) verb rest is none e = absurd (none i is (head_is (decimal i) verb _ rest e))
verb_is _ verb rest is none e = cc

long_verb : (i : ℕ) → IsInst i → (verb : List ℕ) (xs ys : List (List ℕ)) → 1 < length verb → verb ∷ xs ≡ decimal i ∷ ys → ⊥
long_verb i is verb xs ys long e = no_verb i is verb long (sym (head_is verb (decimal i) xs ys e))

pub order_is : (form : Form) (i : ℕ) (order : List ℕ) (rest : List (List ℕ)) → IsInst i
    → form_words form ≡ decimal i ∷ order ∷ rest → order_in form ≡ order
order_is (Begin j name) i order rest is e = cc
order_is (Ask j page mode) i order rest is e = cc
order_is (Give j page) i order rest is e = cc
order_is (Take j page) i order rest is e = cc
order_is (Evict j page) i order rest is e = cc
order_is (Flush j page) i order rest is e = cc
order_is (Force j) i order rest is e = cc
order_is (CheckBegin j) i order rest is e = cc
order_is (CheckEnd j) i order rest is e = cc
order_is form i order rest is e = absurd (long_verb i is (verb_in form) _ (order ∷ rest) (lit< tt) e)

pub inst_led : (form : Form) (i : ℕ) (rest : List (List ℕ)) → IsInst i → form_words form ≡ decimal i ∷ rest → verb_in form ≡ []
inst_led (Begin j name) i rest is e = refl
inst_led (Ask j page mode) i rest is e = refl
inst_led (Give j page) i rest is e = refl
inst_led (Take j page) i rest is e = refl
inst_led (Evict j page) i rest is e = refl
inst_led (Flush j page) i rest is e = refl
inst_led (Force j) i rest is e = refl
inst_led (CheckBegin j) i rest is e = refl
inst_led (CheckEnd j) i rest is e = refl
inst_led form i rest is e = absurd (long_verb i is (verb_in form) _ rest (lit< tt) e)

-- the instance of a form that begins with one
pub inst_is : (i j : ℕ) (xs ys : List (List ℕ)) → IsInst i → IsInst j → decimal i ∷ xs ≡ decimal j ∷ ys → i ≡ j
inst_is i j xs ys is js e = let same : (48 + i) ∷ [] ≡ (48 + j) ∷ [] = sym (inst_digit i is)
    ∙ head_is (decimal i) (decimal j) xs ys e ∙ inst_digit j js in let sums : 48 + i ≡ 48 + j = cc in omega arith

-- the lines of an instance
pub begin_is : (form : Form) (i : ℕ) (name : List ℕ) → IsForm form → IsInst i
    → form_words form ≡ decimal i ∷ codes "begin" ∷ name ∷ [] → form ≡ Begin i name
begin_is form i name is at e = with_order form is (order_is form i (codes "begin") (name ∷ []) at e) e where
  with_order : (f : Form) → IsForm f → order_in f ≡ codes "begin" → form_words f ≡ decimal i ∷ codes "begin" ∷ name ∷ []
      → f ≡ Begin i name
  with_order (Begin j n) is order e = let inst : j ≡ i = inst_is j i _ _ is.0 at e in let same : n ≡ name = cc in ap (λ
      (x : ℕ). Begin x n) inst ∙ ap (λ (x : List ℕ). Begin i x) same
  with_order _ is order e = absurd (omega (arith, ap (λ (l : List ℕ). get_or l 1 0) order))

pub ask_is : (form : Form) (i : ℕ) (page mode : List ℕ) → IsForm form → IsInst i
    → form_words form ≡ decimal i ∷ codes "ask" ∷ page ∷ mode ∷ []
    → (p : ℕ) × (m : Mode) × (form ≡ Ask i p m) × (decimal p ≡ page) × (mode_word m ≡ mode)
ask_is form i page mode is at e = with_order form is (order_is form i (codes "ask") (page ∷ mode ∷ []) at e) e where
  with_order : (f : Form) → IsForm f → order_in f ≡ codes "ask" → form_words f ≡ decimal i ∷ codes "ask" ∷ page ∷ mode ∷ []
      → (p : ℕ) × (m : Mode) × (f ≡ Ask i p m) × (decimal p ≡ page) × (mode_word m ≡ mode)
  with_order (Ask j p m) is order e = let inst : j ≡ i = inst_is j i _ _ is.0 at e in (
    p,
    m,
    ap (λ
        (x : ℕ). Ask x p m) inst,
    cc,
    cc,
  )
  with_order _ is order e = absurd (omega (arith, ap (λ (l : List ℕ). get_or l 1 0) order))

pub give_is : (form : Form) (i : ℕ) (page : List ℕ) → IsForm form → IsInst i
    → form_words form ≡ decimal i ∷ codes "give" ∷ page ∷ [] → (p : ℕ) × (form ≡ Give i p) × (decimal p ≡ page)
give_is form i page is at e = with_order form is (order_is form i (codes "give") (page ∷ []) at e) e where
  with_order : (f : Form) → IsForm f → order_in f ≡ codes "give" → form_words f ≡ decimal i ∷ codes "give" ∷ page ∷ []
      → (p : ℕ) × (f ≡ Give i p) × (decimal p ≡ page)
  with_order (Give j p) is order e = let inst : j ≡ i = inst_is j i _ _ is.0 at e in (p, ap (λ (x : ℕ). Give x p) inst, cc)
  with_order _ is order e = absurd (omega (arith, ap (λ (l : List ℕ). get_or l 1 0) order))

pub take_is : (form : Form) (i : ℕ) (page : List ℕ) → IsForm form → IsInst i
    → form_words form ≡ decimal i ∷ codes "take" ∷ page ∷ [] → (p : ℕ) × (form ≡ Take i p) × (decimal p ≡ page)
take_is form i page is at e = with_order form is (order_is form i (codes "take") (page ∷ []) at e) e where
  with_order : (f : Form) → IsForm f → order_in f ≡ codes "take" → form_words f ≡ decimal i ∷ codes "take" ∷ page ∷ []
      → (p : ℕ) × (f ≡ Take i p) × (decimal p ≡ page)
  with_order (Take j p) is order e = let inst : j ≡ i = inst_is j i _ _ is.0 at e in (p, ap (λ (x : ℕ). Take x p) inst, cc)
  with_order _ is order e = absurd (omega (arith, ap (λ (l : List ℕ). get_or l 1 0) order))

pub evict_is : (form : Form) (i : ℕ) (page : List ℕ) → IsForm form → IsInst i
    → form_words form ≡ decimal i ∷ codes "evict" ∷ page ∷ [] → (p : ℕ) × (form ≡ Evict i p) × (decimal p ≡ page)
evict_is form i page is at e = with_order form is (order_is form i (codes "evict") (page ∷ []) at e) e where
  with_order : (f : Form) → IsForm f → order_in f ≡ codes "evict" → form_words f ≡ decimal i ∷ codes "evict" ∷ page ∷ []
      → (p : ℕ) × (f ≡ Evict i p) × (decimal p ≡ page)
  with_order (Evict j p) is order e = let inst : j ≡ i = inst_is j i _ _ is.0 at e in (p, ap (λ (x : ℕ). Evict x p) inst, cc)
  with_order _ is order e = absurd (omega (arith, ap (λ (l : List ℕ). get_or l 1 0) order))

pub flush_is : (form : Form) (i : ℕ) (page : List ℕ) → IsForm form → IsInst i
    → form_words form ≡ decimal i ∷ codes "flush" ∷ page ∷ [] → (p : ℕ) × (form ≡ Flush i p) × (decimal p ≡ page)
flush_is form i page is at e = with_order form is (order_is form i (codes "flush") (page ∷ []) at e) e where
  with_order : (f : Form) → IsForm f → order_in f ≡ codes "flush" → form_words f ≡ decimal i ∷ codes "flush" ∷ page ∷ []
      → (p : ℕ) × (f ≡ Flush i p) × (decimal p ≡ page)
  with_order (Flush j p) is order e = let inst : j ≡ i = inst_is j i _ _ is.0 at e in (p, ap (λ (x : ℕ). Flush x p) inst, cc)
  with_order _ is order e = absurd (omega (arith, ap (λ (l : List ℕ). get_or l 1 0) order))

pub force_is : (form : Form) (i : ℕ) → IsForm form → IsInst i → form_words form ≡ decimal i ∷ codes "force" ∷ [] → form ≡ Force i
force_is form i is at e = with_order form is (order_is form i (codes "force") [] at e) e where
  with_order : (f : Form) → IsForm f → order_in f ≡ codes "force" → form_words f ≡ decimal i ∷ codes "force" ∷ [] → f ≡ Force i
  with_order (Force j) is order e = let inst : j ≡ i = inst_is j i _ _ is at e in ap (λ (x : ℕ). Force x) inst
  with_order _ is order e = absurd (omega (arith, ap (λ (l : List ℕ). get_or l 1 0) order))

pub check_is : (form : Form) (i : ℕ) (word : List ℕ) → IsForm form → IsInst i → form_words form ≡ decimal i ∷ codes "check" ∷ word ∷ []
    → ((form ≡ CheckBegin i) × (codes "begin" ≡ word)) ⊎ ((form ≡ CheckEnd i) × (codes "end" ≡ word))
check_is form i word is at e = with_order form is (order_is form i (codes "check") (word ∷ []) at e) e where
  with_order : (f : Form) → IsForm f → order_in f ≡ codes "check" → form_words f ≡ decimal i ∷ codes "check" ∷ word ∷ []
      → ((f ≡ CheckBegin i) × (codes "begin" ≡ word)) ⊎ ((f ≡ CheckEnd i) × (codes "end" ≡ word))
  with_order (CheckBegin j) is order e = let inst : j ≡ i = inst_is j i _ _ is at e in inl (ap (λ (x : ℕ). CheckBegin x) inst, cc)
  with_order (CheckEnd j) is order e = let inst : j ≡ i = inst_is j i _ _ is at e in inr (ap (λ (x : ℕ). CheckEnd x) inst, cc)
  with_order _ is order e = absurd (omega (arith, ap (λ (l : List ℕ). get_or l 0 0) order))

-- the lines of a verb
verb_found : (form : Form) (verb : List ℕ) (rest : List (List ℕ)) → 1 < length verb → IsForm form
    → form_words form ≡ verb ∷ rest → verb_in form ≡ verb
verb_found form verb rest long is e = verb_is form verb rest is (verb_is_no_inst verb long) e

pub complex_is : (form : Form) (insts pages frames : List ℕ) → IsForm form
    → form_words form ≡ codes "complex" ∷ insts ∷ pages ∷ frames ∷ []
    → (i : ℕ) × (p : ℕ) × (f : ℕ) × (form ≡ Complex i p f) × (decimal i ≡ insts) × (decimal p ≡ pages) × (decimal f ≡ frames)
complex_is form insts pages frames is e = with_verb form (verb_found form (codes "complex") (insts ∷ pages ∷ frames ∷ [])
    (lit< tt) is e) e where
      with_verb : (f : Form) → verb_in f ≡ codes "complex" → form_words f ≡ codes "complex" ∷ insts ∷ pages ∷ frames ∷ []
          → (i : ℕ) × (p : ℕ) × (k : ℕ) × (f ≡ Complex i p k) × (decimal i ≡ insts) × (decimal p ≡ pages) × (decimal k ≡ frames)
      with_verb (Complex i p f) verb e = (i, p, f, refl, cc, cc, cc)
      with_verb _ verb e = absurd (omega (arith, ap (λ (l : List ℕ). get_or l 4 0) verb))

pub read_is : (form : Form) (name rid : List ℕ) → IsForm form → form_words form ≡ codes "read" ∷ name ∷ rid ∷ []
    → (o : ℕ) × (r : Rid) × (form ≡ Read name o r) × (rid_word r ≡ rid)
read_is form name rid is e = with_verb form (verb_found form (codes "read") (name ∷ rid ∷ []) (lit< tt) is e) e where
  with_verb : (f : Form) → verb_in f ≡ codes "read" → form_words f ≡ codes "read" ∷ name ∷ rid ∷ []
      → (o : ℕ) × (r : Rid) × (f ≡ Read name o r) × (rid_word r ≡ rid)
  with_verb (Read n o r) verb e = let same : n ≡ name = cc in (o, r, ap (λ (x : List ℕ). Read x o r) same, cc)
  with_verb _ verb e = absurd (omega (arith, ap (λ (l : List ℕ). get_or l 2 0) verb))

pub delete_is : (form : Form) (name rid : List ℕ) → IsForm form → form_words form ≡ codes "delete" ∷ name ∷ rid ∷ []
    → (o : ℕ) × (r : Rid) × (form ≡ Delete name o r) × (rid_word r ≡ rid)
delete_is form name rid is e = with_verb form (verb_found form (codes "delete") (name ∷ rid ∷ []) (lit< tt) is e) e where
  with_verb : (f : Form) → verb_in f ≡ codes "delete" → form_words f ≡ codes "delete" ∷ name ∷ rid ∷ []
      → (o : ℕ) × (r : Rid) × (f ≡ Delete name o r) × (rid_word r ≡ rid)
  with_verb (Delete n o r) verb e = let same : n ≡ name = cc in (o, r, ap (λ (x : List ℕ). Delete x o r) same, cc)
  with_verb _ verb e = absurd (omega (arith, ap (λ (l : List ℕ). get_or l 0 0) verb))

pub write_is : (form : Form) (name rid value : List ℕ) → IsForm form
    → form_words form ≡ codes "write" ∷ name ∷ rid ∷ value ∷ []
    → (o : ℕ) × (r : Rid) × (form ≡ Write name o r value) × (rid_word r ≡ rid)
write_is form name rid value is e = with_verb form (verb_found form (codes "write") (name ∷ rid ∷ value ∷ [])
    (lit< tt) is e) e where
      with_verb : (f : Form) → verb_in f ≡ codes "write" → form_words f ≡ codes "write" ∷ name ∷ rid ∷ value ∷ []
          → (o : ℕ) × (r : Rid) × (f ≡ Write name o r value) × (rid_word r ≡ rid)
      with_verb (Write n o r v) verb e = let same : n ≡ name = cc in let bytes : v ≡ value = cc in (
        o,
        r,
        ap (λ
            (x : List ℕ). Write x o r v) same ∙ ap (λ (x : List ℕ). Write name o r x) bytes,
        cc,
      )
      with_verb _ verb e = absurd (omega (arith, ap (λ (l : List ℕ). get_or l 1 0) verb))

pub add_is : (form : Form) (name rid by : List ℕ) → IsForm form → form_words form ≡ codes "add" ∷ name ∷ rid ∷ by ∷ []
    → (o : ℕ) × (r : Rid) × (z : ℤ) × (form ≡ Add name o r z) × (rid_word r ≡ rid) × (signed_decimal z ≡ by)
add_is form name rid by is e = with_verb form (verb_found form (codes "add") (name ∷ rid ∷ by ∷ []) (lit< tt) is e) e where
  with_verb : (f : Form) → verb_in f ≡ codes "add" → form_words f ≡ codes "add" ∷ name ∷ rid ∷ by ∷ []
      → (o : ℕ) × (r : Rid) × (z : ℤ) × (f ≡ Add name o r z) × (rid_word r ≡ rid) × (signed_decimal z ≡ by)
  with_verb (Add n o r z) verb e = let same : n ≡ name = cc in (o, r, z, ap (λ (x : List ℕ). Add x o r z) same, cc, cc)
  with_verb _ verb e = absurd (omega (arith, ap (λ (l : List ℕ). get_or l 0 0) verb))

pub insert_is : (form : Form) (name page value : List ℕ) (more : List (List ℕ)) → IsForm form
    → form_words form ≡ codes "insert" ∷ name ∷ page ∷ value ∷ more
    → (o : ℕ) × (p : ℕ) × (c : Option ℕ) × (form ≡ Insert name o p value c) × (decimal p ≡ page) × (number_words c ≡ more)
insert_is form name page value more is e = with_verb form (verb_found form (codes "insert") (name ∷ page ∷ value ∷ more)
    (lit< tt) is e) e where
      with_verb : (f : Form) → verb_in f ≡ codes "insert" → form_words f ≡ codes "insert" ∷ name ∷ page ∷ value ∷ more
          → (o : ℕ) × (p : ℕ) × (c : Option ℕ) × (f ≡ Insert name o p value c) × (decimal p ≡ page) × (number_words c ≡ more)
      with_verb (Insert n o p v c) verb e = let same : n ≡ name = cc in let bytes : v ≡ value = cc in (
        o,
        p,
        c,
        ap (λ
            (x : List ℕ). Insert x o p v c) same ∙ ap (λ (x : List ℕ). Insert name o p x c) bytes,
        cc,
        cc,
      )
      with_verb _ verb e = absurd (omega (arith, ap (λ (l : List ℕ). get_or l 0 0) verb))

pub save_is : (form : Form) (name mark : List ℕ) → IsForm form → form_words form ≡ codes "save" ∷ name ∷ mark ∷ []
    → (o : ℕ) × (form ≡ Save name o mark)
save_is form name mark is e = with_verb form (verb_found form (codes "save") (name ∷ mark ∷ []) (lit< tt) is e) e where
  with_verb : (f : Form) → verb_in f ≡ codes "save" → form_words f ≡ codes "save" ∷ name ∷ mark ∷ []
      → (o : ℕ) × (f ≡ Save name o mark)
  with_verb (Save n o m) verb e = let same : n ≡ name = cc in let set : m ≡ mark = cc in
      (o, ap (λ (x : List ℕ). Save x o m) same ∙ ap (λ (x : List ℕ). Save name o x) set)
  with_verb _ verb e = absurd (omega (arith, ap (λ (l : List ℕ). get_or l 2 0) verb))

pub back_is : (form : Form) (name mark : List ℕ) → IsForm form → form_words form ≡ codes "back" ∷ name ∷ mark ∷ []
    → (o : ℕ) × (form ≡ Back name o mark)
back_is form name mark is e = with_verb form (verb_found form (codes "back") (name ∷ mark ∷ []) (lit< tt) is e) e where
  with_verb : (f : Form) → verb_in f ≡ codes "back" → form_words f ≡ codes "back" ∷ name ∷ mark ∷ []
      → (o : ℕ) × (f ≡ Back name o mark)
  with_verb (Back n o m) verb e = let same : n ≡ name = cc in let set : m ≡ mark = cc in
      (o, ap (λ (x : List ℕ). Back x o m) same ∙ ap (λ (x : List ℕ). Back name o x) set)
  with_verb _ verb e = absurd (omega (arith, ap (λ (l : List ℕ). get_or l 0 0) verb))

pub rollback_is : (form : Form) (name : List ℕ) → IsForm form → form_words form ≡ codes "rollback" ∷ name ∷ []
    → (o : ℕ) × (form ≡ Rollback name o)
rollback_is form name is e = with_verb form (verb_found form (codes "rollback") (name ∷ []) (lit< tt) is e) e where
  with_verb : (f : Form) → verb_in f ≡ codes "rollback" → form_words f ≡ codes "rollback" ∷ name ∷ []
      → (o : ℕ) × (f ≡ Rollback name o)
  with_verb (Rollback n o) verb e = let same : n ≡ name = cc in (o, ap (λ (x : List ℕ). Rollback x o) same)
  with_verb _ verb e = absurd (omega (arith, ap (λ (l : List ℕ). get_or l 4 0) verb))

pub commit_is : (form : Form) (name : List ℕ) → IsForm form → form_words form ≡ codes "commit" ∷ name ∷ []
    → (o : ℕ) × (form ≡ Commit name o)
commit_is form name is e = with_verb form (verb_found form (codes "commit") (name ∷ []) (lit< tt) is e) e where
  with_verb : (f : Form) → verb_in f ≡ codes "commit" → form_words f ≡ codes "commit" ∷ name ∷ [] → (o : ℕ) × (f ≡ Commit name o)
  with_verb (Commit n o) verb e = let same : n ≡ name = cc in (o, ap (λ (x : List ℕ). Commit x o) same)
  with_verb _ verb e = absurd (omega (arith, ap (λ (l : List ℕ). get_or l 3 0) verb))

pub fail_is : (form : Form) (inst : List ℕ) → IsForm form → form_words form ≡ codes "fail" ∷ inst ∷ []
    → (i : ℕ) × (form ≡ Fail i) × (decimal i ≡ inst)
fail_is form inst is e = with_verb form (verb_found form (codes "fail") (inst ∷ []) (lit< tt) is e) e where
  with_verb : (f : Form) → verb_in f ≡ codes "fail" → form_words f ≡ codes "fail" ∷ inst ∷ []
      → (i : ℕ) × (f ≡ Fail i) × (decimal i ≡ inst)
  with_verb (Fail i) verb e = (i, refl, cc)
  with_verb (FailAll pick) verb e = absurd (cc)
  with_verb _ verb e = absurd (omega (arith, ap (λ (l : List ℕ). get_or l 0 0) verb, ap (λ (l : List ℕ). get_or l 2 0) verb))

pub fuse_is : (form : Form) (calls : List ℕ) → IsForm form → form_words form ≡ codes "fuse" ∷ calls ∷ []
    → (n : ℕ) × (form ≡ Fuse n) × (decimal n ≡ calls)
fuse_is form calls is e = with_verb form (verb_found form (codes "fuse") (calls ∷ []) (lit< tt) is e) e where
  with_verb : (f : Form) → verb_in f ≡ codes "fuse" → form_words f ≡ codes "fuse" ∷ calls ∷ []
      → (n : ℕ) × (f ≡ Fuse n) × (decimal n ≡ calls)
  with_verb (Fuse n) verb e = (n, refl, cc)
  with_verb _ verb e = absurd (omega (arith, ap (λ (l : List ℕ). get_or l 1 0) verb))

pub fault_is : (form : Form) (call : List ℕ) → IsForm form → form_words form ≡ codes "fault" ∷ call ∷ []
    → (n : ℕ) × (form ≡ Fault n) × (decimal n ≡ call)
fault_is form call is e = with_verb form (verb_found form (codes "fault") (call ∷ []) (lit< tt) is e) e where
  with_verb : (f : Form) → verb_in f ≡ codes "fault" → form_words f ≡ codes "fault" ∷ call ∷ []
      → (n : ℕ) × (f ≡ Fault n) × (decimal n ≡ call)
  with_verb (Fault n) verb e = (n, refl, cc)
  with_verb _ verb e = absurd (omega (arith, ap (λ (l : List ℕ). get_or l 2 0) verb))

pub fail_all_is : (form : Form) (all pick : List ℕ) → IsForm form → form_words form ≡ codes "fail" ∷ all ∷ pick ∷ []
    → (p : Pick) × (form ≡ FailAll p) × (codes "all" ≡ all) × (pick_word p ≡ pick)
fail_all_is form all pick is e = with_verb form (verb_found form (codes "fail") (all ∷ pick ∷ []) (lit< tt) is e) e where
  with_verb : (f : Form) → verb_in f ≡ codes "fail" → form_words f ≡ codes "fail" ∷ all ∷ pick ∷ []
      → (p : Pick) × (f ≡ FailAll p) × (codes "all" ≡ all) × (pick_word p ≡ pick)
  with_verb (FailAll p) verb e = (p, refl, cc, cc)
  with_verb (Fail i) verb e = absurd (cc)
  with_verb _ verb e = absurd (omega (arith, ap (λ (l : List ℕ). get_or l 0 0) verb, ap (λ (l : List ℕ). get_or l 2 0) verb))

pub reopen_is : (form : Form) → IsForm form → form_words form ≡ codes "reopen" ∷ [] → form ≡ Reopen
reopen_is form is e = with_verb form (verb_found form (codes "reopen") [] (lit< tt) is e) where
  with_verb : (f : Form) → verb_in f ≡ codes "reopen" → f ≡ Reopen
  with_verb Reopen verb = refl
  with_verb _ verb = absurd (omega (arith, ap (λ (l : List ℕ). get_or l 2 0) verb))

pub recover_is : (form : Form) (all : List ℕ) → IsForm form → form_words form ≡ codes "recover" ∷ all ∷ []
    → (form ≡ RecoverAll) × (codes "all" ≡ all)
recover_is form all is e = with_verb form (verb_found form (codes "recover") (all ∷ []) (lit< tt) is e) e where
  with_verb : (f : Form) → verb_in f ≡ codes "recover" → form_words f ≡ codes "recover" ∷ all ∷ []
      → (f ≡ RecoverAll) × (codes "all" ≡ all)
  with_verb RecoverAll verb e = (refl, cc)
  with_verb (Recover i j k) verb e = absurd (cc)
  with_verb _ verb e = absurd (omega (arith, ap (λ (l : List ℕ). get_or l 3 0) verb))

-- an instance is recovered by another
pub recovery_is : (form : Form) (inst between by : List ℕ) (more : List (List ℕ)) → IsForm form
    → form_words form ≡ codes "recover" ∷ inst ∷ between ∷ by ∷ more
    → (i : ℕ) × (j : ℕ) × (k : Option ℕ) × (form ≡ Recover i j k) × (decimal i ≡ inst) × (codes "by" ≡ between)
    × (decimal j ≡ by) × (number_words k ≡ more)
recovery_is form inst between by more is e = with_verb form (verb_found form (codes "recover")
    (inst ∷ between ∷ by ∷ more) (lit< tt) is e) e where
      with_verb : (f : Form) → verb_in f ≡ codes "recover" → form_words f ≡ codes "recover" ∷ inst ∷ between ∷ by ∷ more
          → (i : ℕ) × (j : ℕ) × (k : Option ℕ) × (f ≡ Recover i j k) × (decimal i ≡ inst) × (codes "by" ≡ between)
          × (decimal j ≡ by) × (number_words k ≡ more)
      with_verb (Recover i j k) verb e = (i, j, k, refl, cc, cc, cc, cc)
      with_verb RecoverAll verb e = absurd (cc)
      with_verb _ verb e = absurd (omega (arith, ap (λ (l : List ℕ). get_or l 3 0) verb))

pub join_is : (form : Form) (word : List ℕ) → IsForm form → form_words form ≡ codes "join" ∷ word ∷ []
    → ((form ≡ JoinAll) × (codes "all" ≡ word)) ⊎ ((i : ℕ) × (form ≡ Join i) × (decimal i ≡ word))
join_is form word is e = with_verb form (verb_found form (codes "join") (word ∷ []) (lit< tt) is e) e where
  with_verb : (f : Form) → verb_in f ≡ codes "join" → form_words f ≡ codes "join" ∷ word ∷ []
      → ((f ≡ JoinAll) × (codes "all" ≡ word)) ⊎ ((i : ℕ) × (f ≡ Join i) × (decimal i ≡ word))
  with_verb JoinAll verb e = inl (refl, cc)
  with_verb (Join i) verb e = inr (i, refl, cc)
  with_verb _ verb e = absurd (omega (arith, ap (λ (l : List ℕ). get_or l 0 0) verb))

pub where_is : (form : Form) (page : List ℕ) → IsForm form → form_words form ≡ codes "where" ∷ page ∷ []
    → (p : ℕ) × (form ≡ Where p) × (decimal p ≡ page)
where_is form page is e = with_verb form (verb_found form (codes "where") (page ∷ []) (lit< tt) is e) e where
  with_verb : (f : Form) → verb_in f ≡ codes "where" → form_words f ≡ codes "where" ∷ page ∷ []
      → (p : ℕ) × (f ≡ Where p) × (decimal p ≡ page)
  with_verb (Where p) verb e = (p, refl, cc)
  with_verb _ verb e = absurd (omega (arith, ap (λ (l : List ℕ). get_or l 1 0) verb))
