-- What a name is.
use Rattle.std.specs.Prelude.{ℕ, Bool, false, not, ◌&&◌, ◌||◌, nat_le, nat_eq, List, [], ◌∷◌, length, codes}
use Rattle.std.specs.List.{list_all}
use Rattle.std.specs.Str.{bytes_eq}
use Rattle.stm_terms.specs.Limits.{longest_name}

-- a to z
abbrev pub is_lower : ℕ → Bool
is_lower b = nat_le 97 b && nat_le b 122

-- A to Z
abbrev pub is_upper : ℕ → Bool
is_upper b = nat_le 65 b && nat_le b 90

-- 0 to 9
abbrev pub is_digit : ℕ → Bool
is_digit b = nat_le 48 b && nat_le b 57

-- what may follow the first letter of a word: letters, digits, `_` and `'`
abbrev pub is_word_byte : ℕ → Bool
is_word_byte b = is_lower b || is_upper b || is_digit b || nat_eq b 95 || nat_eq b 39

-- the words of control
unfoldable pub is_control_word : List ℕ → Bool
is_control_word word =
    bytes_eq word (codes "do") || bytes_eq word (codes "let") || bytes_eq word (codes "if") || bytes_eq word (codes "then")
    || bytes_eq word (codes "else")

-- the words that begin an action
unfoldable pub is_action_word : List ℕ → Bool
is_action_word word =
    bytes_eq word (codes "return") || bytes_eq word (codes "readTVar") || bytes_eq word (codes "writeTVar")
    || bytes_eq word (codes "newTVar") || bytes_eq word (codes "retry") || bytes_eq word (codes "orElse")
    || bytes_eq word (codes "throw") || bytes_eq word (codes "catch")

-- the words for values and types
unfoldable pub is_value_word : List ℕ → Bool
is_value_word word =
    bytes_eq word (codes "True") || bytes_eq word (codes "False") || bytes_eq word (codes "Int") || bytes_eq word (codes "Bool")
    || bytes_eq word (codes "TVar")

-- the words that are no names
abbrev pub is_reserved : List ℕ → Bool
is_reserved word = is_control_word word || is_action_word word || is_value_word word

-- the first letter is a small one
abbrev pub starts_lower : List ℕ → Bool
starts_lower [] = false
starts_lower (b ∷ bs) = is_lower b

-- a word that begins with a small letter, isn't reserved, and has at most `longest_name` bytes
unfoldable pub is_name_text : List ℕ → Bool
is_name_text word = starts_lower word && list_all is_word_byte word && not (is_reserved word) && nat_le (length word) longest_name
