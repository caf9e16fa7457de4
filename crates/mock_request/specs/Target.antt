-- Which URL a request's target asks for, by the bytes of both (origin form and absolute form, RFC 9112, section 3.2).
use Rattle.std.specs.Prelude.{◌≡◌, ◌≢◌, ℕ, List, [], ◌∷◌, ◌++◌, ◌⊎◌, All, codes}

-- b'/'
abbrev pub slash : ℕ
slash = 47

-- b'?'
abbrev pub question_mark : ℕ
question_mark = 63

-- begins with a slash
abbrev pub IsRooted : List ℕ → Type 0
IsRooted [] = ⊥
IsRooted (b ∷ bs) = b ≡ slash

abbrev pub IsAuthorityByte : ℕ → Type 0
IsAuthorityByte b = (b ≢ slash) × (b ≢ question_mark)

-- not empty, with no slash and no question mark
abbrev pub IsAuthority : List ℕ → Type 0
IsAuthority bs = (bs ≢ []) × All IsAuthorityByte bs

-- the end, a path or a query: what may follow an authority
abbrev pub MayFollowAuthority : List ℕ → Type 0
MayFollowAuthority [] = Unit {0}
MayFollowAuthority (b ∷ bs) = (b ≡ slash) ⊎ (b ≡ question_mark)

-- the text, with a slash before it where it doesn't begin with one
abbrev pub IsRootedForm : List ℕ → List ℕ → Type 0
IsRootedForm text url = (IsRooted text × (url ≡ text)) ⊎ ((¬ (IsRooted text)) × (url ≡ slash ∷ text))

-- the target is the URL
pub record IsOriginForm (target url : List ℕ) : Type 0 where
  pub rooted : IsRooted target
  pub same : url ≡ target

-- the target has a scheme and an authority before the URL
pub record IsAbsoluteForm (target url : List ℕ) : Type 0 where
  pub authority : List ℕ
  pub rest : List ℕ
  pub spelled : target ≡ codes "http://" ++ (authority ++ rest)
  pub authority_named : IsAuthority authority
  pub authority_ends : MayFollowAuthority rest
  pub rooted : IsRootedForm rest url

-- the target asks for the URL
abbrev pub IsTarget : List ℕ → List ℕ → Type 0
IsTarget target url = IsOriginForm target url ⊎ IsAbsoluteForm target url

-- the target asks for some URL
abbrev pub HasUrl : List ℕ → Type 0
HasUrl target = (url : List ℕ) × IsTarget target url
