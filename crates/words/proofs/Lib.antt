-- Lists     laws of lists that the library lacks
-- Product   the product of two numbers of k bits
-- Split     two cases of two numbers
-- Tail      a lent tail of a slice, and what is written there
-- Tests     the branches of a rule, for `search tests`
-- Words     flat records, and a buffer that holds words with zeros behind them
-- OneAnswer what 'one answer only' means of a contract
-- Only      one answer only
pub mod Lists
pub mod Product
pub mod Split
pub mod Tail
pub mod Tests
pub mod Words
pub mod OneAnswer
pub mod Only
