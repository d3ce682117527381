mod OwnRows
mod Opening
mod Sends
mod Headings
mod ProjectTexts
mod OneReport
mod ReadLimit
