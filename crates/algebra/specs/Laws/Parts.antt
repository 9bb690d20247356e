-- A list that is worked part by part: each part is lent on, and comes back as the part of the new list.
--
--   part w start xs            the w entries of xs from the place start on
--   Making w new old start ys  lists of so many parts of w entries each; ys has the new one's parts up to the place start, then the old one's
use Rattle.std.specs.Prelude.{◌≡◌, List, ◌++◌, ℕ, ◌*◌, ◌≤◌, length, take, drop}

module _ {A : Type 0} where
  abbrev pub part : ℕ → ℕ → List A → List A
  part w start xs = take w (drop start xs)

pub record Making {A : Type 0} (w : ℕ) (new old : List A) (start : ℕ) (ys : List A) : Type 0 where
  pub count : ℕ
  pub whole : length old ≡ count * w
  pub same : length new ≡ length old
  pub parts : ℕ
  pub some : parts ≤ count
  pub from : start ≡ parts * w
  pub so : ys ≡ take start new ++ drop start old
