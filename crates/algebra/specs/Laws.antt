-- Laws that the crates above cite: of numbers, of lists, of what a machine's integers hold, and of loops.
--
--   Ring        the ring ℤ: the laws that the kit lacks
--   Solve       a normaliser that proves equations of the ring ℤ
--   Tests       the facts that computed tests show
--   Search      whether a test holds of some number
--   Sum         finite sums of integers
--   Naturals    finite sums and largest values of natural numbers
--   Products    products of natural numbers
--   Fractions   fractions with a common denominator
--   Bits        binary digits
--   Size        the size of sums and products of integers
--   Quotients   division of an integer by a natural number
--   Machine     what fits a machine's integer
--   Signs       the size of a signed value, as code forms it
--   Tab         the list of a function's first n values
--   Joined      values one after the other, and lists joined
--   Those       the entries that pass a test
--   Among       what is among the entries of a list, and entries in an order
--
-- Of loops:
--
--   Searching   a loop that looks for a number of which a test holds
--   Gathered    a loop that gathers a set bit by bit
--   Turns       a list whose places are written one after the other
--   Spread      the same where each turn writes places that lie a fixed distance apart
--   Fill        a list that is written place by place
--   Copied      a list that is copied to another
--   Sorted      terms added to places by their keys
--   Parts       a list that is worked part by part
--   Collected   those that pass a test, counted, and written one after the other
pub mod Ring
pub mod Solve
pub mod Tests
pub mod Search
pub mod Sum
pub mod Naturals
pub mod Products
pub mod Fractions
pub mod Bits
pub mod Size
pub mod Quotients
pub mod Machine
pub mod Signs
pub mod Tab
pub mod Joined
pub mod Those
pub mod Among
pub mod Searching
pub mod Gathered
pub mod Turns
pub mod Spread
pub mod Fill
pub mod Copied
pub mod Sorted
pub mod Parts
pub mod Collected
