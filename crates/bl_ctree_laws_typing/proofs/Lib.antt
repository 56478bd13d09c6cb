pub mod OnViews
