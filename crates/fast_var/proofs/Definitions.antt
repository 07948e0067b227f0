-- Reading a variable's definition part by part: spaces before a part are skipped on the same line, a word and a space after it leave
-- the rest of the plan, the last word ends it; and the parts of a definition by these. Assumes nothing.
use Rattle.std.proofs.Common.{◌≡◌, ℕ, zero, suc, ◌+◌, ◌-◌, ◌^◌, ◌<◌, ◌≤◌, true, ltb, List, [], ◌∷◌, length, get_or, drop, sym, refl, ap, ◌∙◌, add-zero, arith, lt-ltb, Option, Some, None, Ok}
use Rattle.text.specs.Bytes.{equal, starts, has, is_blank}
use Rattle.command.specs.Words.{end_mark, word_of}
use Rattle.text.specs.Names.{lookup}
use Rattle.text.specs.declared.Text.{Text}
use Rattle.text.proofs.Lists.{by-test}
use Rattle.number.specs.Decimal.{all_digits, value, number_from, digits_below, unsigned, parse_below}
use Rattle.idcode.specs.Id.{parse_id}
use Rattle.idcode.specs.declared.IdCode.{IdCode}
use Rattle.scope.specs.declared.ReferenceIndex.{ReferenceIndex}
use Rattle.scope.specs.declared.Var.{Var}
use Rattle.scope.specs.declared.VarType.{VarType}
use Rattle.command.specs.declared.Command.{Command}
use Rattle.token.specs.Flat.{word_read}
use Rattle.token.specs.Read.{Bound, most, Valid, byte_read, rest, word, skipped, token}
use Rattle.token.specs.declared.Cursor.{Cursor}
use Rattle.token.proofs.Reading.{place-step, valid-step, skip_step}
use Rattle.parser.specs.Next.{next_from}
use Rattle.parser_part.specs.Plan.{Plan, answer, a_token, a_word, run, var_def, var_of, var_id, var_name, var_end, last_of, var, word_plan, dollar, kind_of}
use Rattle.parser_part.specs.FastWord.{Whole}
use Rattle.parser_part.specs.declared.Kind.{Kind}
use Rattle.parser.specs.declared.Next.{Next}
use Rattle.parser.proofs.Ahead.{valid-good}
use Rattle.parser_part.proofs.Hits.{Lone, whole-lone, text_at, word-here, word-part}
use Rattle.parser_part.proofs.Kept.{token-next}
use Rattle.parser_part.proofs.Parts.{run-answer, run-token, run-no-limit}
use Rattle.fast.specs.Fast.{Reads}
use Rattle.fast_var.specs.FastVar.{HitsVar, Gap, Worded, Begins, Ends, HitsType, IndexAt, variable, Carries, Goes}
use Rattle.fast.proofs.Hits.{space-word, reads-kind}
use Rattle.text.specs.Texts.{limit}

-- ---- spaces
blank : (b : ℕ) → b ≡ 32 → is_blank b ≡ true
unfolding is_blank
blank b e = rw e

space-read : (c : Cursor) (b e x : ℕ) → b ≡ 32 → word_read (byte_read c b) e x ≡ word_read c e x
unfolding word_read byte_read
space-read c b e x q = rw (q, add-zero)

-- a cursor at q, after the spaces from c on: the blanks left to skip end at the same cursor, and a word is read on the same line
record Spaced (s : List ℕ) (c : Cursor) (q : ℕ) : Type 0 where
  to : Cursor
  valid : Valid s to
  there : to.place ≡ q
  skips : skipped s c ≡ skipped s to
  flat : (e x : ℕ) → word_read to e x ≡ word_read c e x

spaced : (s : List ℕ) (k : ℕ) (c : Cursor) (q : ℕ) → Valid s c → c.place + k ≡ q → q ≤ length s
    → ((i : ℕ) → c.place ≤ i → i < q → get_or s i 0 ≡ 32) → Spaced s c q
spaced s zero c q v p h g = record { to = c; valid = v; there = omega arith; skips = refl; flat = λ e x. refl }
spaced s (suc k) c q v p h g =
    let b : ℕ = get_or s c.place 0 in
    let is : b ≡ 32 = g c.place (omega arith) (omega arith) in
    let in-s : c.place < length s = omega arith in
    let next = valid-step s c b v in-s in
    let more = spaced s k (byte_read c b) q next (omega (arith, place-step c b)) h (λ i l u. g i (omega (arith, place-step c b)) u) in
    record {
      to = more.to;
      valid = more.valid;
      there = more.there;
      skips = sym (skip_step s c in-s (blank b is)) ∙ more.skips;
      flat = λ e x. more.flat e x ∙ space-read c b e x is;
    }

-- where the same blanks are left to skip, a token is the same, and a command
module _ (s : List ℕ) (c d : Cursor) (e : skipped s c ≡ skipped s d) where
  token-same : (n : Bound) (f : Text → List ℕ → Plan) → run (a_token n f) s c ≡ run (a_token n f) s d
  unfolding token
  token-same n f = run-token s c n f ∙ rw e (sym (run-token s d n f))

  next-same : Valid s c → Valid s d → next_from s c ≡ next_from s d
  unfolding next_from
  next-same v w = rw (valid-good s c v, valid-good s d w, e)

-- spaces before them
module _ {s : List ℕ} {at q : ℕ} (g : Gap s at q) where
  behind : (c : Cursor) → Valid s c → c.place ≡ at → Spaced s c q
  behind c v p = spaced s (q - at) c q v (omega (arith, g.past)) g.inside (λ i l u. g.spaces i (omega arith) u)

  carries-gap : (n : Bound) (f : Text → List ℕ → Plan) {e : ℕ} {k : Command} → Carries s q e (a_token n f) k → Carries s at e (a_token n f) k
  carries-gap n f {e} {k} r =
      record {
        past = omega (arith, g.past, r.past);
        inside = r.inside;
        reads = λ c v p.
            let b = behind c v p in
            token-same s c b.to b.skips n f ∙ r.reads b.to b.valid b.there
            ∙ ap (λ (d : Cursor). Ok (k, d)) (b.flat e (get_or s e 0));
      }

  reads-gap : {e : ℕ} {k : Command} → Reads s q e k → Reads s at e k
  reads-gap {e} {k} r =
      record {
        past = omega (arith, g.past, r.past);
        inside = r.inside;
        reads = λ c v p.
            let b = behind c v p in
            next-same s c b.to b.skips v b.valid ∙ r.reads b.to b.valid b.there
            ∙ ap (Next.Command k) (b.flat e (get_or s e 0));
      }

-- ---- a word
worded : {s : List ℕ} {q e : ℕ} → Worded s q e → Lone s q e
worded {s} {q} {e} w = record { some = w.some; inside = w.inside; long = w.long; ended = blank (get_or s e 0) w.ended; text = w.text }

-- at the cursor, within a limit
module _ {s : List ℕ} {c : Cursor} (v : Valid s c) {e : ℕ} (w : Lone s c.place e) (n : ℕ) (few : e ≤ c.place + n) where
  run-here : (f : Text → List ℕ → Plan) {p : Plan} → f (text_at c.place e) (word (rest s c)) ≡ p
      → run (a_token (most n) f) s c ≡ run p s (word_read c e (get_or s e 0))
  run-here f m = run-token s c (most n) f ∙ rw (word-here v w n few, word-part v w n few, m)

  valid-here : Valid s (word_read c e (get_or s e 0))
  valid-here = token-next v (most n) refl (word-here v w n few)

-- after spaces: a token and a space leave the rest of the plan; a token that is the last ends it
module _ {s : List ℕ} {at q e : ℕ} (g : Gap s at q) (w : Lone s q e) (n : ℕ) (few : e ≤ q + n) (f : Text → List ℕ → Plan) where
  carries-token : {p : Plan} {z : ℕ} {k : Command} → get_or s e 0 ≡ 32 → f (text_at q e) (word (drop q s)) ≡ p → Carries s (e + 1) z p k
      → Carries s at z (a_token (most n) f) k
  unfolding word_read
  carries-token {p} {z} {k} space m r =
      carries-gap g (most n) f
      (record {
        past = omega (arith, w.some, r.past);
        inside = r.inside;
        reads = λ c v h.
            let x : Lone s c.place e = rw h w in
            run-here v x n (rw h few) f (rw h m) ∙ r.reads (word_read c e (get_or s e 0)) (valid-here v x n (rw h few)) refl
            ∙ ap (λ (d : Cursor). Ok (k, d)) (rw space (space-word c e z (get_or s z 0)));
      })

  carries-last : {k : Command} → f (text_at q e) (word (drop q s)) ≡ answer k → Carries s at e (a_token (most n) f) k
  carries-last {k} m =
      carries-gap g (most n) f
      (record {
        past = w.some;
        inside = w.inside;
        reads = λ c v h. run-here v (rw h w) n (rw h few) f (rw h m) ∙ run-answer s _ k;
      })

-- a word that must be UTF-8
module _ {s : List ℕ} {at q e : ℕ} (g : Gap s at q) (w : Worded s q e) (n : ℕ) (few : e ≤ q + n) (f : Text → List ℕ → Plan) {p : Plan}
    (m : f (text_at q e) (word (drop q s)) ≡ p) where
  carries-word : {z : ℕ} {k : Command} → Carries s (e + 1) z p k → Carries s at z (a_word (most n) f) k
  carries-word r = carries-token g (worded w) n few _ w.ended (rw w.text m) r

  goes-word : (r : Option (Var × ℕ)) → Goes s (e + 1) p r → Goes s at (a_word (most n) f) r
  goes-word (Some (v, z)) h = carries-word h
  goes-word None h = tt

ends-word : {s : List ℕ} {at q : ℕ} → Gap s at q → Ends s q → (f : Text → List ℕ → Plan) {k : Command}
    → f (text_at q (q + 4)) end_mark ≡ answer k → Carries s at (q + 4) (a_word (most 32) f) k
ends-word g x f m = carries-last g (whole-lone x.0) 32 x.0.few _ (rw (x.0.text, x.1) m)

-- no space
none : {s : List ℕ} {at : ℕ} → at ≤ length s → Gap s at at
none h = record { past = omega arith; inside = h; spaces = λ i l u. absurd (omega arith) }

-- ---- a number below one limit, and below another that it keeps
from_less : (a b v x : ℕ) (w : List ℕ) → number_from b v w ≡ Some x → x < a → number_from a v w ≡ Some x
unfolding number_from
from_less a b v x w e h =
    by-test (all_digits w)
    (λ d.
    by-test (ltb (value v w) b)
    (λ t.
    let y = rw (d, t) at e in
    let q : value v w ≡ x = cc in
    let u : ltb (value v w) a ≡ true = lt-ltb (value v w) a (omega arith) in
    rw (d, u, q))
    (λ t. let y = rw (d, t) at e in let z : ◌≡◌ {A = ℕ} 0 1 = cc in absurd (omega arith)))
    (λ d. let y = rw d at e in let z : ◌≡◌ {A = ℕ} 0 1 = cc in absurd (omega arith))

digits-less : (a b x : ℕ) (w : List ℕ) → digits_below b w ≡ Some x → x < a → digits_below a w ≡ Some x
unfolding digits_below
digits-less a b x [] e h = let z : ◌≡◌ {A = ℕ} 0 1 = cc in absurd (omega arith)
digits-less a b x (d ∷ w) e h = from_less a b 0 x (d ∷ w) e h

below_less : (a b x : ℕ) (w : List ℕ) → parse_below b w ≡ Some x → x < a → parse_below a w ≡ Some x
unfolding parse_below
below_less a b x w e h = digits-less a b x (unsigned w) e h

-- ---- the parts of a definition
module _ {s : List ℕ} {at q e : ℕ} (g : Gap s at q) (w : Whole s q e) (space : get_or s e 0 ≡ 32) (k : VarType) where
  with-space : Worded s q e
  with-space = record { some = w.some; inside = w.inside; long = w.long; ended = space; text = w.text }

  pub goes-size : (n : ℕ) → parse_below (2 ^ 64) (word (drop q s)) ≡ Some n → n ≤ 4294967295 → (r : Option (Var × ℕ))
      → Goes s (e + 1) (var_id k n) r → Goes s at (var_of (Some k)) r
  goes-size n p h = goes-word g with-space 32 w.few _ (rw (below_less (2 ^ 32) (2 ^ 64) n (word (drop q s)) p (omega arith)))

  pub goes-code : (n : ℕ) (i : IdCode) → parse_id (word (drop q s)) ≡ Ok i → (r : Option (Var × ℕ))
      → Goes s (e + 1) (var_name k n i) r → Goes s at (var_id k n) r
  goes-code n i p = goes-word g with-space 32 w.few _ (rw p)

-- the plan carries the index apart from the variable, the code in it
told : {s : List ℕ} {at e : ℕ} {p : Plan} (k : VarType) (n : ℕ) (i : IdCode) (t : Text) (x : ReferenceIndex) (v : Var)
    → v ≡ variable k n i t x → Carries s at e p (var_def (variable k n i t ReferenceIndex.None) x) → Goes s at p (Some (v, e))
told k n i t x v m r = rw m r

module _ {s : List ℕ} (k : VarType) (n : ℕ) (i : IdCode) where
  -- no index, and the last word
  ends-plain : (t : Text) {at last : ℕ} → Gap s at last → Ends s last → (v : Var) → v ≡ variable k n i t ReferenceIndex.None
      → Goes s at (var_end (variable k n i t ReferenceIndex.None)) (Some (v, last + 4))
  unfolding starts equal
  ends-plain t g x v m = told k n i t ReferenceIndex.None v m (ends-word g x _ refl)

  -- an index, and the last word
  pub ends-index : (t : Text) {at e last : ℕ} (x : ReferenceIndex) → at ≤ length s → IndexAt s at (Some (x, e)) → Gap s (e + 1) last
      → Ends s last → (v : Var) → v ≡ variable k n i t x
      → Goes s at (var_end (variable k n i t ReferenceIndex.None)) (Some (v, last + 4))
  unfolding equal
  ends-index t x h is g l v m =
      told k n i t x v m
      (carries-word (none h) is.0 32 is.1 _ (rw (is.2, is.3))
      (ends-word g l (λ y w. last_of (var_def (variable k n i t ReferenceIndex.None) x) w) refl))

  -- the name, and spaces after it
  module _ {at q e last : ℕ} (g : Gap s at q) (w : Worded s q e) (short : length s ≤ limit) (a : Gap s (e + 1) last) where
    pub goes-name : (r : Option (Var × ℕ)) → Goes s last (var_end (variable k n i (text_at q e) ReferenceIndex.None)) r → Goes s at (var_name k n i) r
    goes-name (Some (v, z)) h =
        let r = carries-word g w limit (omega (arith, w.inside)) _ refl (carries-gap a _ _ h) in
        record { past = r.past; inside = r.inside; reads = λ c x p. run-no-limit s c _ x ∙ r.reads c x p }
    goes-name None h = tt

    pub ends-name : Ends s last → (v : Var) → v ≡ variable k n i (text_at q e) ReferenceIndex.None
        → Goes s at (var_name k n i) (Some (v, last + 4))
    ends-name x v m = goes-name (Some (v, last + 4)) (ends-plain (text_at q e) (none a.inside) x v m)

-- ---- the whole of it, from `$` on
module _ {s : List ℕ} {at first q e : ℕ} (g : Gap s at first) (b : Begins s first) (a : Gap s (first + 5) q) (k : VarType)
    (t : HitsType s q (Some (k, e))) where
  from-dollar : {z : ℕ} {m : Command} → Carries s (e + 1) z (var_of (Some k)) m → Carries s (first + 1) z dollar m
  unfolding lookup equal
  from-dollar r =
      let more : first + 5 ≡ first + 1 + 3 + 1 = omega arith in
      let is : word_plan (word_of (word (drop (first + 1) s))) ≡ var = rw b.1.1 in
      carries-token (none (omega (arith, b.1.0.inside))) (worded b.1.0) 16 (omega arith) _ b.1.0.ended is
      (carries-word (rw more at a) t.0 32 t.1 _ (rw t.2) r)

  pub hits : (r : Option (Var × ℕ)) → Goes s (e + 1) (var_of (Some k)) r → HitsVar s at r
  unfolding kind_of has
  hits (Some (v, z)) h =
      let r = from-dollar h in
      reads-gap g
      (reads-kind s first z Kind.Dollar _ (omega (arith, r.past)) r.inside (rw b.0)
      (λ x. let y : ◌≡◌ {A = ℕ} 0 1 = cc in omega arith) (λ d u p. sym (r.reads d u p)))
  hits None h = tt
