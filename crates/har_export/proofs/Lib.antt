mod Texts
mod PairLemmas
mod EntryLemmas
mod FloatLemmas
mod TimedLemmas
