mod FitRows
mod NoteTexts
mod ListingLoop
mod OneBasis
mod OneListing
mod ReadLimit
