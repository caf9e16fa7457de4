mod AsSentLemmas
mod BlankLemmas
