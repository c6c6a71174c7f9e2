-- A reader of XML: it follows the tags octet by octet, and keeps what the elements named `title` hold (XML 1.0, 2.4 and
-- 3.1, without entities, comments and declarations).
use Rattle.std.specs.Prelude.{ℕ, ◌==◌, ◌||◌, not, Bool, false, if◌then◌else◌, List, [], ◌∷◌, ◌++◌, fold, Option, None, Some, codes}
use Rattle.std.specs.List.{list_all}
use Rattle.std.specs.Str.{bytes_eq}
use Rattle.layout.specs.NameOctets.{is_name_octet}

-- the octet <
abbrev pub left_angle : ℕ
left_angle = 60

-- the octet >
abbrev pub right_angle : ℕ
right_angle = 62

-- the octet &
abbrev pub ampersand : ℕ
ampersand = 38

-- the octet '
abbrev pub apostrophe : ℕ
apostrophe = 39

-- the octet "
abbrev pub quotation_mark : ℕ
quotation_mark = 34

-- the octet /
abbrev pub solidus : ℕ
solidus = 47

-- the octet =
abbrev pub equals_sign : ℕ
equals_sign = 61

-- a blank
abbrev pub space : ℕ
space = 32

-- whether an octet means something in XML, so that as itself it has to be escaped
abbrev pub is_markup : ℕ → Bool
is_markup c =
    (c == left_angle) || (c == right_angle) || (c == ampersand) || (c == apostrophe) || (c == quotation_mark)

-- whether no octet of a text means something in XML
abbrev pub is_plain : List ℕ → Bool
is_plain octets = list_all (λ c. not (is_markup c)) octets

-- where the reader stands: between tags, after the "<" of a tag, in the name of a start tag, in a start tag after its
-- name or an attribute, in an attribute's name, after its equals sign, in its value, after the "/" of an empty
-- element's tag, or in the name of an end tag; names as far as they were read
pub data Standing : Type 0 where
  Between : Standing
  Begun : Standing
  StartName : (name : List ℕ) → Standing
  StartTag : (name : List ℕ) → Standing
  Attribute : (name : List ℕ) → Standing
  Equals : (name : List ℕ) → Standing
  Value : (name : List ℕ) → Standing
  Emptied : (name : List ℕ) → Standing
  EndName : (name : List ℕ) → Standing

-- what the reader knows: the names of the elements that are open, the innermost first; what the title that is open
-- holds as far as it was read; what the titles before it hold; and where it stands
pub record TagReader : Type 0 where
  pub elements : List (List ℕ)
  pub words : List ℕ
  pub titles : List (List ℕ)
  pub standing : Standing

-- whether the innermost element that is open is a title
abbrev pub is_in_title : List (List ℕ) → Bool
is_in_title [] = false
is_in_title (name ∷ names) = bytes_eq name (codes "title")

-- after an octet of words
abbrev pub after_word_octet : TagReader → ℕ → TagReader
after_word_octet r c = if is_in_title r.elements then record r { words = r.words ++ c ∷ [] } else r

-- after an octet that ends the name of a start tag, or comes after its name or an attribute
abbrev pub after_start_octet : TagReader → List ℕ → ℕ → Option TagReader
after_start_octet r name c =
    if c == space then Some (record r { standing = StartTag name })
    else if c == solidus then Some (record r { standing = Emptied name })
    else if c == right_angle then Some (record r { elements = name ∷ r.elements; standing = Between })
    else None

-- after the end of a title
abbrev pub after_title : TagReader → TagReader
after_title r = record r { words = []; titles = r.titles ++ r.words ∷ [] }

-- after an end tag with this name: the innermost element that is open must have it
abbrev pub after_end : TagReader → List ℕ → List (List ℕ) → Option TagReader
after_end r name [] = None
after_end r name (innermost ∷ outer) =
    if bytes_eq name innermost then
    Some (record (if is_in_title (innermost ∷ outer) then after_title r else r) {
      elements = outer;
      standing = Between;
    })
    else None

-- after one octet, where the reader stands here
abbrev pub after_octet_at : Standing → TagReader → ℕ → Option TagReader
after_octet_at Between r c =
    if c == left_angle then Some (record r { standing = Begun })
    else if is_markup c then None
    else Some (after_word_octet r c)
after_octet_at Begun r c =
    if c == solidus then Some (record r { standing = EndName [] })
    else if is_name_octet c then Some (record r { standing = StartName (c ∷ []) })
    else None
after_octet_at (StartName name) r c =
    if is_name_octet c then Some (record r { standing = StartName (name ++ c ∷ []) }) else after_start_octet r name c
after_octet_at (StartTag name) r c =
    if is_name_octet c then Some (record r { standing = Attribute name }) else after_start_octet r name c
after_octet_at (Attribute name) r c =
    if is_name_octet c then Some r
    else if c == equals_sign then Some (record r { standing = Equals name })
    else None
after_octet_at (Equals name) r c = if c == apostrophe then Some (record r { standing = Value name }) else None
after_octet_at (Value name) r c =
    if c == apostrophe then Some (record r { standing = StartTag name })
    else if is_markup c then None
    else Some r
after_octet_at (Emptied name) r c = if c == right_angle then Some (record r { standing = Between }) else None
after_octet_at (EndName name) r c =
    if is_name_octet c then Some (record r { standing = EndName (name ++ c ∷ []) })
    else if c == right_angle then after_end r name r.elements
    else None

-- after one octet
abbrev pub after_octet : TagReader → ℕ → Option TagReader
after_octet r c = after_octet_at r.standing r c

-- after one more octet, if the reader could read those before
abbrev pub after_next_octet : Option TagReader → ℕ → Option TagReader
after_next_octet None c = None
after_next_octet (Some r) c = after_octet r c

-- after these octets
abbrev pub after_octets : Option TagReader → List ℕ → Option TagReader
after_octets r octets = fold after_next_octet r octets

-- the reader before the first octet
abbrev pub first_reader : TagReader
first_reader = record { elements = []; words = []; titles = []; standing = Between }

-- what the titles hold, if no element and no tag is open
abbrev pub titles_at_end : List (List ℕ) → Standing → List (List ℕ) → Option (List (List ℕ))
titles_at_end [] Between titles = Some titles
titles_at_end _ _ titles = None

-- what the titles hold, if the reader found no fault and no element and no tag is open
abbrev pub titles_of_reader : Option TagReader → Option (List (List ℕ))
titles_of_reader None = None
titles_of_reader (Some r) = titles_at_end r.elements r.standing r.titles

-- what the titles of a text hold, in their order, if the text is closed, which is that each element which is opened is
-- closed, in order, and if nothing that means something in XML stands unescaped in it
unfoldable pub titles_in : List ℕ → Option (List (List ℕ))
titles_in octets = titles_of_reader (after_octets (Some first_reader) octets)
