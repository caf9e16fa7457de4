-- The text at the end of a named text's JSON is read back: the last `:"` outside the text's own bytes begins it.
use Rattle.std.proofs.Common.{◌≡◌, ◌⊎◌, inl, inr, ℕ, ◌/◌, ◌%◌, Bool, true, false, cond, nat_lt}
use Rattle.std.proofs.Common.{◌==◌, ◌&&◌, ◌||◌, List, [], ◌∷◌, ◌++◌, refl, sym, ap, subst}
use Rattle.std.proofs.Common.{◌∙◌, arith, append_assoc, length, length-append, codes}
use Rattle.std.proofs.lemmas.Bool.{ne_eqb, cases_eq}
use Rattle.std.specs.Char.{digit_char}
use Rattle.std.specs.Option.{unwrap_or}
use Rattle.json.specs.Print.{escape_byte, escape_letter, escape}
use Rattle.json.specs.Text.{content, plain}
use Rattle.data_tree.specs.Tree.{named, Items, Members}
use Rattle.data_tree.specs.Json.{json, items_json, members_json}
use Rattle.json.proofs.Printed.Strings.{content-escape}

-- the list begins with a quote, and has two bytes more at least
abbrev follows : List ℕ → Bool
follows [] = false
follows (a ∷ []) = false
follows (a ∷ b ∷ []) = false
follows (a ∷ b ∷ c ∷ r) = a == 34

-- somewhere in the list is a colon, a quote and two bytes more
abbrev spot : List ℕ → Bool
spot [] = false
spot (a ∷ r) = ((a == 58) && follows r) || spot r

or_true : (b : Bool) → (b || true) ≡ true
or_true true = refl
or_true false = refl

spot_there : (z : List ℕ) (a b : ℕ) (r : List ℕ) → spot (z ++ 58 ∷ 34 ∷ a ∷ b ∷ r) ≡ true
spot_there [] a b r = refl
spot_there (x ∷ z) a b r = rw (spot_there z a b r) (or_true ((x == 58) && follows (z ++ 58 ∷ 34 ∷ a ∷ b ∷ r)))

-- no byte is a colon
abbrev HasNoColon : List ℕ → Type 0
HasNoColon [] = Unit {0}
HasNoColon (a ∷ r) = ((a == 58) ≡ false) × HasNoColon r

spot_past : (e r : List ℕ) → HasNoColon e → spot (e ++ r) ≡ spot r
spot_past [] r h = refl
spot_past (a ∷ e) r h = rw (h.0) (spot_past e r h.1)

-- the first byte is no quote
abbrev BeginsPlain : List ℕ → Type 0
BeginsPlain [] = ⊥
BeginsPlain (a ∷ r) = (a == 34) ≡ false

follows_plain : (a : ℕ) (r : List ℕ) → (a == 34) ≡ false → follows (a ∷ r) ≡ false
follows_plain a [] h = refl
follows_plain a (b ∷ []) h = refl
follows_plain a (b ∷ c ∷ r) h = h

follows_past : (e r : List ℕ) → BeginsPlain e → follows (e ++ r) ≡ false
follows_past [] r h = absurd h
follows_past (a ∷ e) r h = follows_plain a (e ++ r) h

plain_by : (p q : Bool) (y : ℕ) (xs ys : List ℕ) → (y == 34) ≡ false
    → BeginsPlain (cond p (92 ∷ xs) (cond q (92 ∷ ys) (y ∷ [])))
plain_by true q y xs ys h = refl
plain_by false true y xs ys h = refl
plain_by false false y xs ys h = h

escape_begins_plain : (y : ℕ) → BeginsPlain (escape_byte y)
unfolding escape_byte
escape_begins_plain y = go (cases_eq y 34)
  where
    go : (y ≡ 34) ⊎ (y ≡ 34 → ⊥) → BeginsPlain (escape_byte y)
    go (inl e) = subst (λ x. BeginsPlain (escape_byte x)) (sym e) refl
    go (inr n) = search (plain_by, ne_eqb y 34 n)

letter_by : (a b c d e f : Bool) (y : ℕ) → (y == 58) ≡ false
    → (cond a y (cond b 98 (cond c 102 (cond d 110 (cond e 114 (cond f 116 0))))) == 58) ≡ false
letter_by true b c d e f y h = h
letter_by false true c d e f y h = refl
letter_by false false true d e f y h = refl
letter_by false false false true e f y h = refl
letter_by false false false false true f y h = refl
letter_by false false false false false true y h = refl
letter_by false false false false false false y h = refl

letter_no_colon : (y : ℕ) → (y == 58) ≡ false → (escape_letter y == 58) ≡ false
letter_no_colon y h = letter_by ((y == 34) || (y == 92)) (y == 8) (y == 12) (y == 10) (y == 13) (y == 9) y h

digit_no_colon : (d : ℕ) → (digit_char d == 58) ≡ false
digit_no_colon d = ne_eqb (digit_char d) 58 (grind arith)

no_colon_by : (p q : Bool) (l y c d : ℕ) → (l == 58) ≡ false → (y == 58) ≡ false → (c == 58) ≡ false
    → (d == 58) ≡ false
    → HasNoColon (cond p (92 ∷ l ∷ []) (cond q (92 ∷ 117 ∷ 48 ∷ 48 ∷ c ∷ d ∷ []) (y ∷ [])))
no_colon_by true q l y c d hl hy hc hd = (refl, (hl, tt))
no_colon_by false true l y c d hl hy hc hd = (refl, (refl, (refl, (refl, (hc, (hd, tt))))))
no_colon_by false false l y c d hl hy hc hd = (hy, tt)

escape_no_colon : (y : ℕ) → (y == 58) ≡ false → HasNoColon (escape_byte y)
unfolding escape_byte
escape_no_colon y h =
    no_colon_by (nat_lt 0 (escape_letter y)) (nat_lt y 32) (escape_letter y) y (digit_char (y / 16))
    (digit_char (y % 16)) (letter_no_colon y h) h (digit_no_colon (y / 16)) (digit_no_colon (y % 16))

-- what follows the opening quote, up to the end of the JSON
abbrev closed : List ℕ → List ℕ
closed s = escape s ++ 34 ∷ 125 ∷ []

closed_step : (y : ℕ) (s : List ℕ) → closed (y ∷ s) ≡ escape_byte y ++ closed s
closed_step y s = append_assoc (escape_byte y) (escape s) (34 ∷ 125 ∷ [])

follows_closed : (s : List ℕ) → follows (closed s) ≡ false
follows_closed [] = refl
follows_closed (y ∷ s) =
    ap follows (closed_step y s) ∙ follows_past (escape_byte y) (closed s) (escape_begins_plain y)

spot_colon : (r : List ℕ) → follows r ≡ false → spot (escape_byte 58 ++ r) ≡ spot r
unfolding escape_byte
spot_colon r h = rw h refl

spot_byte : (y : ℕ) (r : List ℕ) → follows r ≡ false → spot (escape_byte y ++ r) ≡ spot r
spot_byte y r h = go (cases_eq y 58)
  where
    go : (y ≡ 58) ⊎ (y ≡ 58 → ⊥) → spot (escape_byte y ++ r) ≡ spot r
    go (inl e) = subst (λ x. spot (escape_byte x ++ r) ≡ spot r) (sym e) (spot_colon r h)
    go (inr n) = spot_past (escape_byte y) r (escape_no_colon y (ne_eqb y 58 n))

spot_closed : (s : List ℕ) → spot (closed s) ≡ false
spot_closed [] = refl
spot_closed (y ∷ s) = ap spot (closed_step y s) ∙ spot_byte y (closed s) (follows_closed s) ∙ spot_closed s

-- no closed text has another one after a colon and a quote in it
apart : (s u z w : List ℕ) → w ≡ closed u → closed s ≡ z ++ 58 ∷ 34 ∷ w → ⊥
apart s u z [] is same = absurd (omega (arith, ap length is, length-append (escape u) (34 ∷ 125 ∷ [])))
apart s u z (a ∷ []) is same = absurd (omega (arith, ap length is, length-append (escape u) (34 ∷ 125 ∷ [])))
apart s u z (a ∷ b ∷ w) is same = absurd (cc (spot_closed s, ap spot same, spot_there z a b w))

closed_injective : (s u : List ℕ) → closed s ≡ closed u → s ≡ u
closed_injective s u same =
    ap (λ o. unwrap_or o [])
    (sym (content-escape s (125 ∷ [])) ∙ ap (content plain) same ∙ content-escape u (125 ∷ []))

tails : (a b : ℕ) (x y : List ℕ) → a ∷ x ≡ b ∷ y → x ≡ y
tails a b x y same = cc

heads : (a b : ℕ) (x y : List ℕ) → a ∷ x ≡ b ∷ y → a ≡ b
heads a b x y same = cc

-- of two ends of one list, each after a colon and a quote, they are equal or one is an end of the other
ends : (x y p q : List ℕ) → x ++ 58 ∷ 34 ∷ p ≡ y ++ 58 ∷ 34 ∷ q
    → (p ≡ q) ⊎ (((z : List ℕ) × (p ≡ z ++ 58 ∷ 34 ∷ q))
    ⊎ ((z : List ℕ) × (q ≡ z ++ 58 ∷ 34 ∷ p)))
ends [] [] p q same = inl (tails 34 34 p q (tails 58 58 (34 ∷ p) (34 ∷ q) same))
ends [] (b ∷ []) p q same =
    absurd (omega (arith, heads 34 58 p (34 ∷ q) (tails 58 b (34 ∷ p) (58 ∷ 34 ∷ q) same)))
ends [] (b ∷ c ∷ y) p q same =
    inr (inl (y, tails 34 c p (y ++ 58 ∷ 34 ∷ q) (tails 58 b (34 ∷ p) (c ∷ (y ++ 58 ∷ 34 ∷ q)) same)))
ends (a ∷ []) [] p q same =
    absurd (omega (arith, heads 58 34 (34 ∷ p) q (tails a 58 (58 ∷ 34 ∷ p) (34 ∷ q) same)))
ends (a ∷ b ∷ x) [] p q same =
    inr (inr (x, sym (tails b 34 (x ++ 58 ∷ 34 ∷ p) q (tails a 58 (b ∷ (x ++ 58 ∷ 34 ∷ p)) (34 ∷ q) same))))
ends (a ∷ x) (b ∷ y) p q same = ends x y p q (tails a b (x ++ 58 ∷ 34 ∷ p) (y ++ 58 ∷ 34 ∷ q) same)

-- two texts that end one JSON, each after a colon, are equal
last_text : (x y s u : List ℕ) → x ++ 58 ∷ 34 ∷ closed s ≡ y ++ 58 ∷ 34 ∷ closed u → s ≡ u
last_text x y s u same = go (ends x y (closed s) (closed u) same)
  where
    go
        : (closed s ≡ closed u)
        ⊎ (((z : List ℕ) × (closed s ≡ z ++ 58 ∷ 34 ∷ closed u))
        ⊎ ((z : List ℕ) × (closed u ≡ z ++ 58 ∷ 34 ∷ closed s)))
        → s ≡ u
    go (inl e) = closed_injective s u e
    go (inr (inl r)) = absurd (apart s u r.0 (closed u) refl r.1)
    go (inr (inr r)) = absurd (apart u s r.0 (closed s) refl r.1)

-- what is before the colon
abbrev before_text : Items → Members → List ℕ
before_text ts ms =
    codes "{\"fields\":{" ++
    (members_json false ms ++ (codes "},\"items\":[" ++ (items_json false ts ++ codes "],\"text\"")))

named_ends : (s : List ℕ) (ts : Items) (ms : Members)
    → json (named s ts ms) ≡ before_text ts ms ++ 58 ∷ 34 ∷ closed s
named_ends s ts ms =
    ap (λ r. codes "{\"fields\":{" ++
    (members_json false ms ++ (codes "},\"items\":[" ++ (items_json false ts ++ (codes "],\"text\":\"" ++ r)))))
    (append_assoc (escape s) (34 ∷ []) (125 ∷ []))
    ∙ ap (λ r. codes "{\"fields\":{" ++ (members_json false ms ++ (codes "},\"items\":[" ++ r)))
    (sym (append_assoc (items_json false ts) (codes "],\"text\"") (58 ∷ 34 ∷ closed s)))
    ∙ ap (λ r. codes "{\"fields\":{" ++ r)
    (sym (append_assoc (members_json false ms)
    (codes "},\"items\":[" ++ (items_json false ts ++ codes "],\"text\"")) (58 ∷ 34 ∷ closed s)))

-- two named texts with one JSON are one text
pub named_alike : (s u : List ℕ) (ts us : Items) (ms ns : Members) → json (named s ts ms) ≡ json (named u us ns)
    → s ≡ u
named_alike s u ts us ms ns same =
    last_text (before_text ts ms) (before_text us ns) s u (sym (named_ends s ts ms) ∙ same ∙ named_ends u us ns)
